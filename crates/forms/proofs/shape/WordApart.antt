-- The rows of a word. Their wires are apart where the words' wires at each position are: words that do not overlap are apart,
-- and so is a word from itself rotated.
use Rattle.std.proofs.Common.{◌≡◌, ℕ, ◌/◌, ◌%◌, ◌<◌, ◌≤◌, eqb, ltb, List, [], ◌∷◌, map, arith, ltb-true}
use Rattle.forms.proofs.shape.All.{all_map, of_cond}
use Rattle.forms.proofs.shape.Apart.{Apart, ApartWires}
use Rattle.forms.proofs.shape.Clear.{ClearWords, Under}
use Rattle.forms.proofs.shape.DifferenceApart.{ApartDifference}
use Rattle.forms.proofs.shape.SumApart.{ApartSum}
use Rattle.forms.proofs.terms.SumTerms.{addend_words}
use Rattle.forms.specs.Positions.{wire_at}
use Rattle.forms.specs.Shape.{All, Pairwise}
use Rattle.forms.specs.WordForms.{choice_of, paired, subtracted, summed, xor_of_two}
use Rattle.forms.specs.declared.form.Addends.{Addends}
use Rattle.forms.specs.declared.form.Bound.{Bound}
use Rattle.forms.specs.declared.form.Digits.{Digits}
use Rattle.forms.specs.declared.form.Form.TheVariants.{XorOfThree}
use Rattle.forms.specs.declared.form.Form.{Form}
use Rattle.forms.specs.declared.position.WordPosition.{WordPosition}
use Rattle.refusal.specs.declared.numbers.WireNumber.{WireNumber}

-- two words have different wires at each position
abbrev Differ : WordPosition → WordPosition → Type 0
Differ x y = (i : ℕ) → i < 32 → (wire_at x i).0 ≡ (wire_at y i).0 → ⊥

pub record ApartWords (m : ℕ) (xs : List WordPosition) : Type 0 where
  pub within : All (Under m) xs
  pub apart : Pairwise Differ xs

-- words on runs of wires that do not overlap
clear_differ : (x : WordPosition) (ys : List WordPosition) → All (ClearWords x) ys → All (Differ x) ys
clear_differ x ys = all_map (ClearWords x) (Differ x) (λ y h i l e. omega (arith, h (omega arith))) ys

clear_apart : (xs : List WordPosition) → Pairwise ClearWords xs → Pairwise Differ xs
clear_apart [] a = tt
clear_apart (x ∷ xs) a = (clear_differ x xs a.0, clear_apart xs a.1)

pub clear_words : (m : ℕ) (xs : List WordPosition) → All (Under m) xs
    → Pairwise ClearWords xs → ApartWords m xs
clear_words m xs h a = record { within = h; apart = clear_apart xs a }

-- the wires at one position
module _ (m l : ℕ) (low : l < 32) where
  abbrev wire : WordPosition → ℕ
  wire x = (wire_at x l).0

  wires-within : (xs : List WordPosition) → All (Under m) xs → All (λ w. (1 ≤ w) × (w < m)) (map wire xs)
  wires-within [] h = tt
  wires-within (x ∷ xs) h = (omega arith, wires-within xs h.1)

  wire_apart : (x : WordPosition) (ys : List WordPosition) → All (Differ x) ys → All (λ w. wire x ≡ w → ⊥) (map wire ys)
  wire_apart x [] h = tt
  wire_apart x (y ∷ ys) h = (h.0 l low, wire_apart x ys h.1)

  wires_apart : (xs : List WordPosition) → Pairwise Differ xs → Pairwise (λ v w. v ≡ w → ⊥) (map wire xs)
  wires_apart [] h = tt
  wires_apart (x ∷ xs) h = (wire_apart x xs h.0, wires_apart xs h.1)

  words-wires : (xs : List WordPosition) → ApartWords m xs → ApartWires m (map wire xs)
  words-wires xs h = record { within = wires-within xs h.within; apart = wires_apart xs h.apart }

module _ (m : ℕ) where
  pub xor_of_two_apart : (x y r : WordPosition) (l : ℕ) → l < 32 → ApartWords m (x ∷ y ∷ r ∷ []) → Apart m (xor_of_two x y r l)
  unfolding xor_of_two
  xor_of_two_apart x y r l low h = words-wires m l low (x ∷ y ∷ r ∷ []) h

  module _ (x y z r : WordPosition) (h : ApartWords m (x ∷ y ∷ z ∷ r ∷ [])) where
    pub choice_apart : (l : ℕ) → l < 32 → Apart m (choice_of x y z r l)
    unfolding choice_of
    choice_apart l low = words-wires m l low (x ∷ y ∷ z ∷ r ∷ []) h

    pub pair_apart : (equation : WireNumber → WireNumber → WireNumber → WireNumber → Form)
        → ((x y z r : WireNumber) → ApartWires m (x.0 ∷ y.0 ∷ z.0 ∷ r.0 ∷ []) → Apart m (equation x y z r))
        → (l : ℕ) → l < 64 → Apart m (paired equation x y z r l)
    unfolding paired
    pair_apart equation e l low =
        let wires = words-wires m (l / 2) (omega arith) (x ∷ y ∷ z ∷ r ∷ []) h in
        of_cond (Apart m) (eqb (l % 2) 0) (λ t. omega (arith, wires)) (λ t. e _ _ _ _ wires)

    pub xor_of_three_apart : (l : ℕ) → l < 64 → Apart m (paired XorOfThree x y z r l)
    xor_of_three_apart = pair_apart XorOfThree (λ x y z r wires. wires)

  pub sum_apart : (s : Addends) (c r l : ℕ) → ApartSum m (addend_words s) c r → Apart m (summed s c r l)
  unfolding summed
  sum_apart s c r l h = of_cond (Apart m) (ltb l 34) (λ t. omega (arith, h.result, ltb-true l 34 t)) (λ t. h)

  pub difference_apart : (d : Digits) (bound : Bound) (n r l : ℕ) → ApartDifference m d bound n r → Apart m (subtracted d bound n r l)
  unfolding subtracted
  difference_apart d bound n r l h = of_cond (Apart m) (ltb l n) (λ t. omega (arith, h.result, ltb-true l n t)) (λ t. h)
