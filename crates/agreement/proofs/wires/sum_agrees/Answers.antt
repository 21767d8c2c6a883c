-- The word that the hash keeps of the sum, and after it the two bits of what passes 2^32, agree one after the other.
use Rattle.std.proofs.Common.{◌+◌, sym, refl, ap, ◌∙◌, arith, eqb-true}
use Rattle.assignment.proofs.HashSums.{higher_carry, lower_carry}
use Rattle.forms.specs.WordWires.{carry_wires, sum_wires, word_wires}
use Rattle.agreement.proofs.Agreeing.{agrees_as, agrees_next, agrees_none, agrees_then}
use Rattle.agreement.proofs.wires.sum_agrees.Goals as goal

pub returns : goal.returns
unfolding sum_wires
returns c =
    let a = c.args in
    let w = a.w.0 in
    λ e whole sum.
    agrees_then (w + 32) refl
    (agrees_as (ap word_wires sum.word) (c.word_agrees.ensures c.if-not-word_agrees.false))
    (agrees_next (w + 33) (omega arith) (sym c.read-2.ensures ∙ eqb-true _ _ e ∙ lower_carry _ whole sum)
    (agrees_next (w + 32) (omega arith) (sym c.read.ensures ∙ c.if-read-sum.false ∙ higher_carry _ whole sum)
    (agrees_none (w + 32) (carry_wires whole) a.assignment.now)))
