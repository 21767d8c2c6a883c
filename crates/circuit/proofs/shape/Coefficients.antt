-- The coefficients of a circuit's rows. A row's residues are from 1 to p - 1, so that each is what its coefficient is modulo p.
use mathlib.Core.Path.{◌∙◌}
use Prim.Native.Nat.{ℕ, ◌<◌, ◌≤◌}
use native.Mathlib.Nat.{mod-eq_of_lt}
use Rattle.circuit.proofs.shape.Shape.{residues}
use Rattle.circuit.specs.Circuit.{row_at}
use Rattle.circuit.specs.Former.{CoefficientsUnaltered}
use Rattle.circuit.specs.Places.{row_count}
use Rattle.circuit.specs.Ranges.{Allowed}
use Rattle.circuit.specs.declared.circuits.Circuit.{Circuit}
use Rattle.field.specs.Field.{p}
use Rattle.forms.proofs.exact.Signed.{signed-residue}
use Rattle.forms.proofs.shape.All.{all_map}
use Rattle.forms.specs.Former.{IsFormer}
use Rattle.forms.specs.Rows.{terms}
use Rattle.forms.specs.Shape.{All}
use Rattle.forms.specs.declared.form.Term.{Term}

is_former : (t : Term) → (1 ≤ t.residue) × (t.residue < p) → IsFormer t
is_former t h = record { least = h.0; most = h.1; modulo = signed-residue t.residue ∙ mod-eq_of_lt h.1 }

pub coefficients_unaltered : CoefficientsUnaltered
coefficients_unaltered C allowed k below =
    all_map (λ t. (1 ≤ t.residue) × (t.residue < p)) IsFormer is_former (terms (row_at C k)) (residues C allowed k below)

pub residues_below : (C : Circuit) → Allowed C → (k : ℕ) → k < row_count C → All (λ t. t.residue < p) (terms (row_at C k))
residues_below C allowed k below =
    all_map (λ t. (1 ≤ t.residue) × (t.residue < p)) (λ t. t.residue < p) (λ t h. h.1) (terms (row_at C k)) (residues C allowed k below)
