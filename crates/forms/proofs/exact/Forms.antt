-- Each row form holds exactly where its result has the intended value, for an assignment whose wire 0 is 1 and whose values
-- are residues. A product is 0 modulo p where a factor is, since p is prime; all else are numbers far below p, of which a
-- residue p - k takes k off.
use Rattle.std.proofs.Common.{◌≡◌, ℕ, zero, suc, ◌+◌, ◌-◌, ◌*◌, ◌/◌, ◌%◌, ◌<◌, ◌⊎◌, ◌↔◌, refl, inl, inr, ⊎_elim, arith}
use mathlib.Core.Logic.Iff
use mathlib.Core.Logic.{⊎_map, by_cases}
use native.Mathlib.Decide.{dec_lt}
use Rattle.field.proofs.Congruence.{mul-mod-mod, mod-mul-mod}
use Rattle.field.proofs.Prime.{no_zero_divisors}
use Rattle.field.specs.Field.{p}
use Rattle.forms.proofs.exact.Runs.{Judged}
use Rattle.forms.proofs.exact.Values.{row-letters}
use Rattle.forms.specs.Former.{former_value}
use Rattle.forms.specs.Rows.{Satisfied, letters, row_of}
use Rattle.forms.specs.declared.form.Form.TheVariants.{Fixed, Bit, XorOfTwo, XorOfThree, Majority, Choice, Equal}
use Rattle.refusal.specs.declared.numbers.WireNumber.{WireNumber}

-- two values that differ as two residues do agree modulo p exactly where the residues are equal
pub balance : (u v x w m n : ℕ) → x < p → w < p → u + w + p * m ≡ v + x + p * n → ((u % p ≡ v % p) ↔ (x ≡ w))
balance u v x w m n hx hw e = omega arith

-- a product is 0 where a factor is
product-zero : (x y : ℕ) {A B : Type 0} → ((x % p ≡ 0) ↔ A) → ((y % p ≡ 0) ↔ B) → (((x * y) % p ≡ 0) ↔ (A ⊎ B))
product-zero x y e f = (
  λ h. ⊎_map e.0 f.0 (no_zero_divisors x y h),
  ⊎_elim (λ h. rw (← mod-mul-mod x y p, e.1 h) (omega arith)) (λ h. rw (← mul-mod-mod x y p, f.1 h) (omega arith)),
)

-- the values of a bit, and r as the lowest and as the highest bit of the sum s of three bits

bit_values : (x : ℕ) → x < 2 → (x ≡ 0) ⊎ (x ≡ 1)
bit_values zero h = inl refl
bit_values (suc x) h = inr (omega arith)

xor_of_three : (s r : ℕ) → s < 4 → r < 2 → ((s ≡ r) ⊎ (s ≡ r + 2)) ↔ (r ≡ s % 2)
xor_of_three s r hs hr = (
  ⊎_elim (λ e. omega arith) (λ e. omega arith),
  λ e. by_cases (dec_lt s 2) (λ l. inl (omega arith)) (λ g. inr (omega arith)),
)

majority-of_three : (s r : ℕ) → ((s ≡ 2 * r) ⊎ (2 * r + 1 ≡ s)) ↔ (r ≡ s / 2)
majority-of_three s r = (
  ⊎_elim (λ e. omega arith) (λ e. omega arith),
  λ e. by_cases (dec_lt (s % 2) 1) (λ l. inl (omega arith)) (λ g. inr (omega arith)),
)

module _ (a : ℕ → ℕ) (J : Judged a) where
  pub fixed_row : (w b : ℕ) → b < 2 → (Satisfied a (row_of (Fixed (record { 0 = w }) b)) ↔ (a w ≡ b))
  unfolding letters former_value
  fixed_row w b h =
      Iff.trans (row-letters a (Fixed (record { 0 = w }) b)) (rw J.one (omega (arith, J.below w)))

  pub bit-row : (w : ℕ) → (Satisfied a (row_of (Bit (record { 0 = w }))) ↔ (a w < 2))
  unfolding letters former_value
  bit-row w =
      Iff.trans (row-letters a (Bit (record { 0 = w })))
      (Iff.trans
      (product-zero _ _
      (balance _ 0 (a w) 0 0 0 (J.below w) (omega arith) (omega arith))
      (balance _ 0 (a w) 1 0 1 (J.below w) (omega arith) (omega arith)))
      (⊎_elim (λ e. omega arith) (λ e. omega arith), bit_values (a w)))

  pub equal_row : (x y : ℕ) → (Satisfied a (row_of (Equal (record { 0 = x }) (record { 0 = y }))) ↔ (a x ≡ a y))
  unfolding letters former_value
  equal_row x y =
      Iff.trans (row-letters a (Equal (record { 0 = x }) (record { 0 = y })))
      (rw J.one (omega (arith, J.below x, J.below y)))

  module _ (x y r : WireNumber) (hx : a x.0 < 2) (hy : a y.0 < 2) where
    pub xor_two_row : Satisfied a (row_of (XorOfTwo x y r)) ↔ (a r.0 ≡ (a x.0 + a y.0) % 2)
    unfolding letters former_value
    xor_two_row =
        Iff.trans (row-letters a (XorOfTwo x y r))
        (balance _ _ (a r.0) ((a x.0 + a y.0) % 2) (a r.0) 0 (J.below r.0) (omega arith)
        (⊎_elim (λ e. rw e (omega arith)) (λ e. rw e (omega arith)) (bit_values (a x.0) hx)))

    module _ (z : WireNumber) (hz : a z.0 < 2) where
      pub xor_three_row : a r.0 < 2
          → (Satisfied a (row_of (XorOfThree x y z r)) ↔ (a r.0 ≡ (a x.0 + a y.0 + a z.0) % 2))
      unfolding letters former_value
      xor_three_row hr =
          let s : ℕ = a x.0 + a y.0 + a z.0 in
          Iff.trans (row-letters a (XorOfThree x y z r))
          (Iff.trans
          (product-zero _ _
          (balance _ 0 s (a r.0) 0 (a r.0) (omega arith) (omega arith) (omega arith))
          (balance _ 0 s (a r.0 + 2) 0 (a r.0 + 1) (omega arith) (omega arith) (omega arith)))
          (xor_of_three s (a r.0) (omega arith) hr))

      pub majority-row : a r.0 < 2
          → (Satisfied a (row_of (Majority x y z r)) ↔ (a r.0 ≡ (a x.0 + a y.0 + a z.0) / 2))
      unfolding letters former_value
      majority-row hr =
          let s : ℕ = a x.0 + a y.0 + a z.0 in
          Iff.trans (row-letters a (Majority x y z r))
          (Iff.trans
          (product-zero _ _
          (balance _ 0 s (2 * a r.0) 0 (a r.0) (omega arith) (omega arith) (omega arith))
          (balance _ 0 (2 * a r.0 + 1) s 0 s (omega arith) (omega arith) (omega arith)))
          (majority-of_three s (a r.0)))

      pub choice-row : Satisfied a (row_of (Choice x y z r)) ↔ (a r.0 ≡ a x.0 * a y.0 + (1 - a x.0) * a z.0)
      unfolding letters former_value
      choice-row =
          let below : a r.0 < p = J.below r.0 in
          Iff.trans (row-letters a (Choice x y z r))
          (⊎_elim (λ e. rw e (omega arith)) (λ e. rw e (omega arith)) (bit_values (a x.0) hx))
