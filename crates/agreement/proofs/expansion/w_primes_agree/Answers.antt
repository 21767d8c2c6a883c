-- Before turn j the wires of the first j w_primes agree.
use Rattle.std.proofs.Common.{arith, below_more}
use Rattle.forms.specs.WordWires.{word_wires}
use Rattle.agreement.proofs.Agreeing.{agrees_rows}
use Rattle.sm3.specs.Sm3.{w_prime}
use Rattle.agreement.proofs.expansion.w_primes_agree.Goals as goal

pub returns-then-not-word_agrees : goal.returns-then-not-word_agrees
returns-then-not-word_agrees c =
    let x = c.args.x.now in
    (omega arith, agrees_rows c.loop-j.j (λ j. word_wires (w_prime x j)) c.loop-j.invariant.1)

pub loop-j-preserved : goal.loop-j-preserved
unfolding w_prime
loop-j-preserved c =
    (omega arith, below_more _ _ c.loop-j.invariant.1 (c.word_agrees.ensures c.if-not-word_agrees.false))

pub returns : goal.returns
returns c =
    let x = c.args.x.now in
    (omega arith, agrees_rows 64 (λ j. word_wires (w_prime x j)) (λ j l. c.loop-j.invariant.1 j (omega arith)))
