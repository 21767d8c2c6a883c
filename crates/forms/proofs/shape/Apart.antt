-- Forms whose wires are below m, apart from each other and from wire 0. Then the terms of each part of a form's letters have
-- different wires below m and residues below p, and all parts have at most 163 terms: 162 and 1 of a sum.
use Rattle.std.proofs.Common.{◌≡◌, ℕ, ◌+◌, ◌<◌, ◌≤◌, not, List, [], ◌∷◌, length, arith, length-append}
use Rattle.field.specs.Field.{p}
use Rattle.forms.proofs.shape.DifferenceApart.{ApartDifference, difference_few, difference_part}
use Rattle.forms.proofs.shape.Rises.{Part, all_nonzero, nonzero_distinct, nonzero-length}
use Rattle.forms.proofs.shape.SumApart.{ApartSum, sum_few, sum_part}
use Rattle.forms.proofs.terms.SumTerms.{addend_words}
use Rattle.forms.specs.Rows.{Row, bound_value, is_lower, letters, nonzero, with_sign, terms}
use Rattle.forms.specs.Shape.{All, Pairwise, most_terms}
use Rattle.forms.specs.Terms.{term_count, unsorted}
use Rattle.forms.specs.declared.form.Form.TheVariants.{Fixed, Bit, XorOfTwo, XorOfThree, Majority, Choice, Sum, Equal, Difference}
use Rattle.forms.specs.declared.form.Form.{Form}
use Rattle.forms.specs.declared.form.Term.{Term}

-- different wires below m, none of them wire 0; where a form has a constant, that is in range
pub record ApartWires (m : ℕ) (ws : List ℕ) : Type 0 where
  pub within : All (λ w. (1 ≤ w) × (w < m)) ws
  pub apart : Pairwise (λ v w. v ≡ w → ⊥) ws

abbrev pub Apart : ℕ → Form → Type 0
Apart m (Fixed w b) = ApartWires m (w.0 ∷ []) × (b < 2)
Apart m (Bit w) = ApartWires m (w.0 ∷ [])
Apart m (XorOfTwo x y r) = ApartWires m (x.0 ∷ y.0 ∷ r.0 ∷ [])
Apart m (XorOfThree x y z r) = ApartWires m (x.0 ∷ y.0 ∷ z.0 ∷ r.0 ∷ [])
Apart m (Majority x y z r) = ApartWires m (x.0 ∷ y.0 ∷ z.0 ∷ r.0 ∷ [])
Apart m (Choice x y z r) = ApartWires m (x.0 ∷ y.0 ∷ z.0 ∷ r.0 ∷ [])
Apart m (Sum s c r) = ApartSum m (addend_words s) c r.0
Apart m (Equal x y) = ApartWires m (x.0 ∷ y.0 ∷ [])
Apart m (Difference d bound n r) = ApartDifference m d bound n r.0

pub record Parts (m : ℕ) (r : Row) : Type 0 where
  pub a : Part m r.A
  pub b : Part m r.B
  pub c : Part m r.C

pub letters_parts : (m : ℕ) (f : Form) → Apart m f → Parts m (letters f)
unfolding letters
letters_parts m (Fixed w b) h = omega arith
letters_parts m (Bit w) h = omega arith
letters_parts m (XorOfTwo x y r) h = omega arith
letters_parts m (XorOfThree x y z r) h = record { a = omega arith; b = omega arith; c = omega arith }
letters_parts m (Majority x y z r) h = record { a = omega arith; b = omega arith; c = omega arith }
letters_parts m (Choice x y z r) h = omega arith
letters_parts m (Sum s c r) h = record { a = sum_part m s c r h; b = omega arith; c = omega arith }
letters_parts m (Equal x y) h = omega arith
letters_parts m (Difference d bound n r) h =
    record { a = difference_part m d bound n r h; b = omega (arith, h.result); c = omega arith }

-- so have those of the form, without the zero ones

pub part_nonzero : (m : ℕ) (ts : List Term) → Part m ts → Part m (nonzero ts)
part_nonzero m ts h =
    record {
      distinct = nonzero_distinct ts h.distinct;
      wires = all_nonzero (λ t. t.wire.0 < m) ts h.wires;
      residues = all_nonzero (λ t. t.residue < p) ts h.residues;
    }

pub unsorted_parts : (m : ℕ) (f : Form) → Apart m f → Parts m (unsorted f)
unfolding unsorted
unsorted_parts m f h =
    let parts = letters_parts m f h in
    record { a = part_nonzero m _ parts.a; b = part_nonzero m _ parts.b; c = part_nonzero m _ parts.c }

-- how many terms a form has, the zero ones left out

few : (f : Form) → length (letters f).A + length (letters f).B + length (letters f).C ≤ most_terms → term_count f ≤ most_terms
unfolding terms unsorted
few f h =
    let r = letters f in
    simp length-append (omega (arith, nonzero-length r.A, nonzero-length r.B, nonzero-length r.C))

pub letters_few : (m : ℕ) (f : Form) → Apart m f → term_count f ≤ most_terms
unfolding letters
letters_few m (Fixed w b) h = few (Fixed w b) (omega arith)
letters_few m (Bit w) h = few (Bit w) (omega arith)
letters_few m (XorOfTwo x y r) h = few (XorOfTwo x y r) (omega arith)
letters_few m (XorOfThree x y z r) h = few (XorOfThree x y z r) (omega arith)
letters_few m (Majority x y z r) h = few (Majority x y z r) (omega arith)
letters_few m (Choice x y z r) h = few (Choice x y z r) (omega arith)
letters_few m (Sum s c r) h = sum_few m s c r h
letters_few m (Equal x y) h = few (Equal x y) (omega arith)
letters_few m (Difference d bound n r) h =
    few (Difference d bound n r)
    (omega (arith, difference_few (is_lower bound) d (with_sign (not (is_lower bound)) (bound_value bound)) n r h.few))
