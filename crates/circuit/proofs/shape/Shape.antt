-- Every row has the shape that the document gives it. The wires of its form are apart from each other, so each part of its
-- letters has different wires, and sorted it rises; what sorting and dropping zero terms leave are terms of the letters. Their residues
-- are from 1 to p - 1, and those of coefficients that are not 0 and in range.
use mathlib.Core.List.{List, ◌++◌}
use mathlib.Core.Path.{◌≡◌}
use Prim.Native.Nat.{ℕ, ◌<◌, ◌≤◌}
use native.Mathlib.Omega.{arith}
use lib.ListN.{length, length-append}
use Rattle.block.specs.Steps.{place}
use Rattle.block.specs.declared.step.Step.{Step}
use Rattle.circuit.proofs.shape.RowApart.{place_apart, row_apart}
use Rattle.circuit.specs.Circuit.{form_at, form_of, row_at}
use Rattle.circuit.specs.Places.{row_count}
use Rattle.circuit.specs.Ranges.{Allowed, InCircuit}
use Rattle.circuit.specs.Wires.{wire_count}
use Rattle.circuit.specs.declared.circuits.Circuit.{Circuit}
use Rattle.field.specs.Field.{p}
use Rattle.forms.proofs.coefficient.Signs.{signed_in_range}
use Rattle.forms.proofs.shape.All.{all_append, all_both, all_map}
use Rattle.forms.proofs.shape.Apart.{Parts, letters_few, letters_parts}
use Rattle.forms.proofs.shape.Rises.{Part, all_nonzero, all_normal, normal_length, normal_positive, normal_rises}
use Rattle.forms.specs.Coefficients.{coefficient}
use Rattle.forms.specs.Rows.{Row, letters, nonzero, row_of, terms, normal_form}
use Rattle.forms.specs.Shape.{All, InRange, Shaped, most_terms}
use Rattle.forms.specs.Terms.{term_count, unsorted}
use Rattle.forms.specs.declared.form.Form.{Form}
use Rattle.forms.specs.declared.form.Term.{Term}

-- what f leaves of each part, one after the other
all_parts : (P : Term → Type 0) (f : List Term → List Term) (m : ℕ) → ((ts : List Term) → Part m ts → All P (f ts))
    → (r : Row) → Parts m r → All P (f r.A ++ f r.B ++ f r.C)
all_parts P f m h r q =
    all_append P (f r.A ++ f r.B) (f r.C)
    (all_append P (f r.A) (f r.B) (h r.A q.a) (h r.B q.b))
    (h r.C q.c)

-- sorting drops no term
normal_count : (f : Form) → length (terms (row_of f)) ≡ term_count f
unfolding row_of terms unsorted
normal_count f = simp (length-append, normal_length)

-- a row's terms have room
pub place_few : (C : Circuit) → Allowed C → (s : Step) (i j l : ℕ) → InCircuit C (place s i j l) → term_count (form_of C i s j l) ≤ most_terms
place_few C allowed s i j l h = letters_few (wire_count C) (form_of C i s j l) (place_apart C allowed s i j l h)

module _ (C : Circuit) (allowed : Allowed C) (k : ℕ) (below : k < row_count C) where
  parts : Parts (wire_count C) (letters (form_at C k))
  parts = letters_parts (wire_count C) (form_at C k) (row_apart C allowed k below)

  -- document 01's "coefficients from 1 to p - 1"
  pub residues : All (λ t. (1 ≤ t.residue) × (t.residue < p)) (terms (row_at C k))
  unfolding row_at row_of terms
  residues =
      all_parts (λ t. (1 ≤ t.residue) × (t.residue < p)) normal_form (wire_count C)
      (λ ts q.
      all_both (λ t. 1 ≤ t.residue) (λ t. t.residue < p) (normal_form ts) (normal_positive ts)
      (all_normal (λ t. t.residue < p) ts q.residues))
      (letters (form_at C k))
      parts

  pub shape : Shaped (wire_count C) (row_at C k)
  unfolding row_at row_of terms
  shape =
      let m = wire_count C in
      let l = letters (form_at C k) in
      record {
        a = normal_rises l.A parts.a.distinct;
        b = normal_rises l.B parts.b.distinct;
        c = normal_rises l.C parts.c.distinct;
        wires = all_parts (λ t. t.wire.0 < m) normal_form m (λ ts q. all_normal (λ t. t.wire.0 < m) ts q.wires) l parts;
        coefficients =
            all_map (λ t. (1 ≤ t.residue) × (t.residue < p)) (λ t. InRange (coefficient t))
            (λ t q. signed_in_range t.residue q.0 q.1)
            (terms (row_at C k))
            residues;
        few = omega (arith, normal_count (form_at C k), letters_few m (form_at C k) (row_apart C allowed k below));
      }

  -- .. and of the terms in the letters' order
  pub letters-within : All (λ t. (t.wire.0 < wire_count C) × (t.residue < p)) (terms (unsorted (form_at C k)))
  unfolding unsorted terms
  letters-within =
      let m = wire_count C in
      all_parts (λ t. (t.wire.0 < m) × (t.residue < p)) nonzero m
      (λ ts q.
      all_nonzero (λ t. (t.wire.0 < m) × (t.residue < p)) ts
      (all_both (λ t. t.wire.0 < m) (λ t. t.residue < p) ts q.wires q.residues))
      (letters (form_at C k))
      parts
