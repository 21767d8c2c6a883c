-- A difference's row and its bits. The row's value is the greater number less the lesser and less the number that the bits write, all far
-- below p; so the row holds where the greater is the sum of the two. And bits write a number exactly where they are its bits, so rows and
-- bits agree only where the greater number is no less than the other and their difference has room.
use Rattle.std.proofs.Common.{◌≡◌, ℕ, zero, suc, ◌+◌, ◌-◌, ◌*◌, ◌/◌, ◌%◌, ◌^◌, ◌<◌, ◌≤◌, Bool, true, false, cond, ◌↔◌, [], ◌∷◌, ◌++◌, None, Option, Some, sym, ap, ◌∙◌, ap₂, add-zero, mod-eq_of_lt, mul_assoc, mul-one, mul-add, arith, lit≤, pow_mono}
use mathlib.Core.Logic.Iff
use Rattle.encoding.proofs.Bits.{bit_of-number, number_cong, number_lt, number_of-bits}
use Rattle.encoding.proofs.Sequence.{Each, each_beside, each_iff, each_one}
use Rattle.encoding.specs.Bits.{number}
use Rattle.encoding.specs.Sequence.{beside, tab}
use Rattle.field.specs.Field.{p}
use Rattle.forms.proofs.exact.Forms.{balance, bit-row}
use Rattle.forms.proofs.exact.Runs.{Agree, Holds, Judged, and_given}
use Rattle.forms.proofs.exact.Values.{row-letters, value-append, value-less, value-tab, value-weighted}
use Rattle.forms.proofs.terms.DifferenceTerms.{few, weight_few}
use Rattle.forms.specs.Positions.{at, one}
use Rattle.forms.specs.Former.{former_value}
use Rattle.forms.specs.Rows.{Satisfied, ◌·◌, bound_value, digit_terms, is_lower, letters, number_terms, row_of, tens_terms, with_sign}
use Rattle.forms.specs.WordForms.{subtracted}
use Rattle.forms.specs.WordWires.{number_wires}
use Rattle.forms.specs.declared.form.Bound.TheVariants.{Lower, Upper}
use Rattle.forms.specs.declared.form.Bound.{Bound}
use Rattle.forms.specs.declared.form.Digits.{Digits}
use Rattle.forms.specs.declared.form.Form.TheVariants.{Bit, Difference}
use Rattle.refusal.specs.declared.numbers.WireNumber.{WireNumber}

-- bits that write the difference of x and y
difference_bits : (x y n : ℕ) (b : ℕ → ℕ)
    → ((Each n (λ k. b k < 2) × (x ≡ y + number n b)) ↔ ((y ≤ x) × (x - y < 2 ^ n) × Each n (λ k. b k ≡ number_wires n (x - y) k)))
unfolding number_wires
difference_bits x y n b = (
  λ (bits, e).
      let rest : x - y ≡ number n b = omega arith in
      (omega arith, rw rest (number_lt n b bits), λ k l. sym (ap (λ (v : ℕ). v / 2 ^ (n - 1 - k) % 2) rest ∙ bit_of-number n b k bits l)),
  λ (le, room, same). (
    λ k l. rw (same k l) (omega arith),
    omega (arith, number_cong n b _ same ∙ number_of-bits n (x - y) ∙ mod-eq_of_lt room),
  ),
)

module _ (a : ℕ → ℕ) where
  -- the number on n wires from w on, and that of digits
  abbrev pub number_on : ℕ → WireNumber → ℕ
  number_on n w = number n (λ i. a (w.0 + i))

  abbrev pub tens_on : Option WireNumber → ℕ
  tens_on None = 0
  tens_on (Some w) = 10 * number_on 4 w

  abbrev pub digits_on : Digits → ℕ
  digits_on d = number_on 4 d.units + tens_on d.tens

  value-times : (n k : ℕ) (c : ℕ → ℕ) (w : ℕ → WireNumber)
      → former_value a (tab n (λ i. (k * c i) · w i)) ≡ k * former_value a (tab n (λ i. c i · w i))
  unfolding former_value tab
  value-times zero k c w = omega arith
  value-times (suc n) k c w =
      value-tab a n (λ i. (k * c i) · w i)
      ∙ ap₂ ◌+◌ (value-times n k c w) (mul_assoc k (c n) (a (w n).0))
      ∙ sym (ap (λ (v : ℕ). k * v) (value-tab a n (λ i. c i · w i)) ∙ mul-add k (former_value a (tab n (λ i. c i · w i))) (c n * a (w n).0))

  value-number : (k n : ℕ) (w : WireNumber) → former_value a (number_terms true k n w) ≡ k * number_on n w
  unfolding number_terms
  value-number k n w =
      value-times n k (λ i. 2 ^ (n - 1 - i)) (at w)
      ∙ ap (λ (v : ℕ). k * v)
      (ap (λ (m : ℕ). former_value a (tab n (λ i. (2 ^ (m - 1 - i)) · at w i))) (sym (add-zero n)) ∙ value-weighted a n 0 (at w) ∙ mul-one (number_on n w))

  value-number-less : (k n : ℕ) (w : WireNumber) → k ≤ 10 → n ≤ 7 → (former_value a (number_terms false k n w) + k * number_on n w) % p ≡ 0
  unfolding number_terms
  value-number-less k n w small short =
      omega (
        arith,
        value-less a n (λ i. k * 2 ^ (n - 1 - i)) (at w) (λ i l. omega (arith, few k (2 ^ (n - 1 - i)) small (weight_few n i short))),
        value-number k n w,
      )

  -- digits that are put on, and digits that are taken off
  DigitsValue : Bool → Digits → Type 0
  DigitsValue true d = former_value a (digit_terms true d) ≡ digits_on d
  DigitsValue false d = (former_value a (digit_terms false d) + digits_on d) % p ≡ 0

  value-digits : (plus : Bool) (d : Digits) → DigitsValue plus d
  unfolding digit_terms former_value DigitsValue
  value-digits true d = value-append a (number_terms true 1 4 d.units) (tens_terms true d.tens) ∙ more d.tens
    where
      more : (tens : Option WireNumber) → former_value a (number_terms true 1 4 d.units) + former_value a (tens_terms true tens)
          ≡ number_on 4 d.units + tens_on tens
      more (Some w) = omega (arith, value-number 1 4 d.units, value-number 10 4 w)
      more None = omega (arith, value-number 1 4 d.units)
  value-digits false d = more d.tens
    where
      more : (tens : Option WireNumber)
          → (former_value a (number_terms false 1 4 d.units ++ tens_terms false tens) + (number_on 4 d.units + tens_on tens)) % p ≡ 0
      more (Some w) =
          omega (
            arith,
            value-append a (number_terms false 1 4 d.units) (number_terms false 10 4 w),
            value-number-less 1 4 d.units (lit≤ tt) (lit≤ tt),
            value-number-less 10 4 w (lit≤ tt) (lit≤ tt),
          )
      more None =
          omega (arith, value-append a (number_terms false 1 4 d.units) [], value-number-less 1 4 d.units (lit≤ tt) (lit≤ tt))

  -- the number that is taken off, and the one that it is taken off from
  abbrev pub lesser : Bound → Digits → ℕ
  lesser bound d = cond (is_lower bound) (bound_value bound) (digits_on d)

  abbrev pub greater : Bound → Digits → ℕ
  greater bound d = cond (is_lower bound) (digits_on d) (bound_value bound)

  module _ (J : Judged a) (d : Digits) (n : ℕ) (small : digits_on d < 2 ^ 32) (short : n ≤ 7) where
    difference_row : (b : Bound) → bound_value b < 2 ^ 32 → (r : WireNumber) → number_on n r < 2 ^ 32
        → (Satisfied a (row_of (Difference d b n r)) ↔ (greater b d ≡ lesser b d + number_on n r))
    unfolding letters former_value DigitsValue
    difference_row (Lower bound) low r hn =
        let bits = number_terms false 1 n r in
        let off : (former_value a bits + 1 * number_on n r) % p ≡ 0 = value-number-less 1 n r (lit≤ tt) short in
        Iff.trans (row-letters a (Difference d (Lower bound) n r))
        (rw J.one
        (balance _ 0 (digits_on d) (bound + number_on n r) 0 (1 + (former_value a bits + number_on n r) / p) (omega arith) (omega arith)
        (omega (
          arith,
          value-append a (digit_terms true d ++ (with_sign false bound · one ∷ [])) bits,
          value-append a (digit_terms true d) (with_sign false bound · one ∷ []),
          ap (λ (v : ℕ). with_sign false bound * v) J.one,
          value-digits true d,
          off,
        ))))
    difference_row (Upper bound) low r hn =
        let bits = number_terms false 1 n r in
        let digits = former_value a (digit_terms false d) in
        let off : (former_value a bits + 1 * number_on n r) % p ≡ 0 = value-number-less 1 n r (lit≤ tt) short in
        Iff.trans (row-letters a (Difference d (Upper bound) n r))
        (rw J.one
        (balance _ 0 bound (digits_on d + number_on n r) 0 ((digits + digits_on d) / p + (former_value a bits + number_on n r) / p) (omega arith) (omega arith)
        (omega (
          arith,
          value-append a (digit_terms false d ++ (bound · one ∷ [])) bits,
          value-append a (digit_terms false d) (bound · one ∷ []),
          ap (λ (v : ℕ). bound * v) J.one,
          value-digits false d,
          off,
        ))))

    -- a difference's rows
    pub difference_run : (b : Bound) → bound_value b < 2 ^ 32 → (r : ℕ)
        → (Holds a (n + 1) (subtracted d b n r)
        ↔ ((lesser b d ≤ greater b d)
        × (greater b d - lesser b d < 2 ^ n)
        × Agree a r n (number_wires n (greater b d - lesser b d))))
    unfolding subtracted beside
    difference_run b low r =
        Iff.trans
        (each_beside (λ k f. Satisfied a (row_of f)) n 1 (λ l. Bit (record { 0 = r + l })) (λ l. Difference d b n (record { 0 = r })))
        (Iff.trans
        (and_given
        (each_iff n (λ l. Satisfied a (row_of (Bit (record { 0 = r + l })))) (λ l. a (r + l) < 2) (λ l m. bit-row a J (r + l)))
        (λ bits.
        let most : 2 ^ n ≤ 2 ^ 7 = pow_mono short in
        Iff.trans (each_one (λ l. Satisfied a (row_of (Difference d b n (record { 0 = r })))))
        (difference_row b low (record { 0 = r }) (omega (arith, number_lt n (λ i. a (r + i)) bits)))))
        (difference_bits (greater b d) (lesser b d) n (λ i. a (r + i))))
