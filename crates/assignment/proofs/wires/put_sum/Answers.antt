-- The word that the hash keeps of the sum, and after it the two bits of what passes 2^32: the sum with nothing dropped is made
-- of both, so they are its carries.
use Rattle.std.proofs.Common.{◌+◌, refl, ap, arith}
use Rattle.assignment.proofs.HashSums.{higher_carry, lower_carry}
use Rattle.assignment.proofs.Writes.{wrote_as, wrote-next, wrote_none, wrote_then}
use Rattle.forms.specs.WordWires.{carry_wires, sum_wires, word_wires}
use Rattle.assignment.proofs.wires.put_sum.Goals as goal

pub returns : goal.returns
unfolding sum_wires
returns c =
    let w = c.args.w.0 in
    let l1 = c.put_word.new.out in
    λ whole sum.
    wrote_then (w + 32) refl (wrote_as (ap word_wires sum.word) c.put_word.ensures)
    (wrote-next (w + 33) (omega arith) (lower_carry _ whole sum)
    (wrote-next (w + 32) (omega arith) (higher_carry _ whole sum) (wrote_none (w + 32) (carry_wires whole) l1) c.put_entry.ensures)
    c.put_entry-2.ensures)
