-- The row of a form has the form's terms, each part in the order of its wires, which are apart.
use mathlib.Core.Path.{◌≡◌, ap, ◌∙◌}
use Prim.Native.Nat.{ℕ, ◌<◌}
use Rattle.circuit.proofs.shape.RowApart.{row_apart}
use Rattle.circuit.specs.Circuit.{form_at, row_at}
use Rattle.circuit.specs.Places.{row_count}
use Rattle.circuit.specs.Ranges.{Allowed}
use Rattle.circuit.specs.Wires.{wire_count}
use Rattle.circuit.specs.declared.circuits.Circuit.{Circuit}
use Rattle.forms.proofs.shape.Apart.{Parts, unsorted_parts}
use Rattle.forms.specs.Rows.{normal_form, row_of, sorted}
use Rattle.forms.specs.Shape.{Distinct}
use Rattle.forms.specs.Terms.{held, unsorted}
use Rattle.forms.specs.declared.form.Form.{Form}
use Rattle.forms.specs.declared.terms.RowTerms.{RowTerms}

abbrev in_order : RowTerms → RowTerms
in_order t = record { a = sorted t.a; b = sorted t.b; c = sorted t.c }

pub row_sorted : (C : Circuit) (k : ℕ) (f : Form) (t u : RowTerms) → f ≡ form_at C k → t ≡ held (unsorted f) → u ≡ in_order t → u ≡ held (row_at C k)
unfolding normal_form row_at row_of unsorted
row_sorted C k f t u ef et eu = eu ∙ ap in_order (et ∙ ap (λ g. held (unsorted g)) ef)

pub form_distinct : (C : Circuit) → Allowed C → (k : ℕ) → k < row_count C → (f : Form) (t : RowTerms) → f ≡ form_at C k → t ≡ held (unsorted f)
    → Distinct t.a × Distinct t.b × Distinct t.c
form_distinct C allowed k below f t ef et =
    let parts : Parts (wire_count C) (unsorted (form_at C k)) = unsorted_parts (wire_count C) (form_at C k) (row_apart C allowed k below) in
    rw (et, ef) (parts.a.distinct, parts.b.distinct, parts.c.distinct)
