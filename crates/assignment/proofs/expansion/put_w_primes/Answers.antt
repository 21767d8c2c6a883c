-- Before turn j the wires of the first j w_primes are written; a turn writes the next row of the grid.
use Rattle.std.proofs.Common.{refl, arith}
use Rattle.assignment.proofs.Writes.{wrote_none, wrote-row}
use Rattle.forms.specs.WordWires.{word_wires}
use Rattle.sm3.specs.Sm3.{w_prime}
use Rattle.assignment.proofs.expansion.put_w_primes.Goals as goal

pub loop-j-init : goal.loop-j-init
loop-j-init c = (omega arith, wrote_none _ _ _)

pub loop-j-preserved : goal.loop-j-preserved
unfolding w_prime
loop-j-preserved c =
    let x = c.args.x.now in
    (omega arith, wrote-row (λ j. word_wires (w_prime x j)) c.loop-j.j _ refl c.loop-j.invariant.1 c.put_word.ensures)
