-- The sort leaves the same terms, whose wires do not fall; and terms of different wires have one order.
use Rattle.std.proofs.Common.{ap, ◌∙◌, sym, subst, arith, length-take-le, rules}
use Rattle.std.proofs.lemmas.List.Sorted.{IsNonDecreasingBy-from_sort_by_key}
use Rattle.forms.proofs.part.Kept.{front}
use Rattle.forms.proofs.part.Sorting.{in_order}
use Rattle.forms.specs.Rows.{sorted}
use Rattle.forms.specs.Shape.{Distinct}
use Rattle.forms.specs.declared.form.Term.{Term}
use Rattle.forms.proofs.part.Part.sort.Goals as goal

pub returns : goal.returns
returns g c =
    let sort = c.sort_unstable_by_key.ensures in
    let held = c.self.inside in
    let up = IsNonDecreasingBy-from_sort_by_key (λ (t : Term). t.wire.0) _ sort.sorted (λ a r q k. search rules) in
    let count = length-take-le held.count held.terms (omega arith) in
    front _ _ held.count (sort.len ∙ count)
    ∙ in_order _ _ (subst Distinct (sym c.self.view_is) c.requires) sort.permutation up
    ∙ ap sorted c.self.view_is
