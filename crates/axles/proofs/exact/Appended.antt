-- The appended rows, where the digit bytes stand on their wires as the record r has them. The fixed rows hold where both high halves are 3; each
-- number's rows hold where the number is not negative and its wires are its bits. All of it together says that the record lies in the band
-- and that the appended wires are its own.
use mathlib.Core.Bool.{cond}
use mathlib.Core.Logic.Iff
use mathlib.Core.Logic.{◌↔◌}
use mathlib.Core.Path.{◌≡◌, ◌∙◌, ap, subst}
use Prim.Native.Nat.{ℕ, ◌+◌, ◌-◌, ◌*◌, ◌<◌, ◌≤◌, ◌^◌}
use native.Mathlib.Omega.{arith}
use lib.Dec.{lit≤}
use Rattle.axles.proofs.Bands.{BandBits}
use Rattle.axles.specs.Band.{tens_place, units_place}
use Rattle.axles.specs.Layout.{appended, axles_of, digit, numbers, tens, units}
use Rattle.circuit.specs.Axles.{above_lower, axle_form, axles, below_upper, digit_of, high_half, tens_byte, tens_left, units_byte, units_left}
use Rattle.encoding.proofs.Bits.{number_cong, number_lt}
use Rattle.encoding.proofs.Sequence.{Each, each_beside, each_iff}
use Rattle.forms.proofs.exact.Differences.{difference_run, digits_on, number_on}
use Rattle.forms.proofs.exact.Parts.{agree_beside}
use Rattle.forms.proofs.exact.Runs.{Agree, Holds, Judged, and_given}
use Rattle.forms.proofs.exact.Words.{fixed_row}
use Rattle.forms.specs.Rows.{Satisfied, bound_value, is_lower, row_of}
use Rattle.forms.specs.WordForms.{subtracted}
use Rattle.forms.specs.WordWires.{number_wires}
use Rattle.forms.specs.declared.form.Bound.TheVariants.{Lower, Upper}
use Rattle.forms.specs.declared.form.Bound.{Bound}
use Rattle.forms.specs.declared.form.Digits.{Digits}
use Rattle.forms.specs.declared.form.Form.{Form}

-- a number's wires are bits
pub number-wire_lt : (n x i : ℕ) → number_wires n x i < 2
unfolding number_wires
number-wire_lt n x i = omega arith

module _ (a : ℕ → ℕ) (J : Judged a) (r : ℕ → ℕ) (bits : (k : ℕ) → r k < 2)
    (reads : (i : ℕ) → i < 16 → a (tens_byte + i) ≡ r (8 * tens_place + i)) where
  -- the digits
  digit_lt : (place : ℕ) → digit r place < 16
  digit_lt place = number_lt 4 (λ i. r (8 * place + 4 + i)) (λ i l. bits (8 * place + 4 + i))

  tens_on : number_on a 4 (record { 0 = tens_byte + 4 }) ≡ tens r
  tens_on =
      number_cong 4 _ _
      (λ i l.
      let wire : tens_byte + 4 + i ≡ tens_byte + (4 + i) = omega arith in
      let bit : 8 * tens_place + (4 + i) ≡ 8 * tens_place + 4 + i = omega arith in
      ap a wire ∙ reads (4 + i) (omega arith) ∙ ap r bit)

  units_on : number_on a 4 (record { 0 = units_byte + 4 }) ≡ units r
  units_on =
      number_cong 4 _ _
      (λ i l.
      let wire : units_byte + 4 + i ≡ tens_byte + (12 + i) = omega arith in
      let bit : 8 * tens_place + (12 + i) ≡ 8 * units_place + 4 + i = omega arith in
      ap a wire ∙ reads (12 + i) (omega arith) ∙ ap r bit)

  -- the fixed rows of a byte that is read from its bit k on
  half-run : (byte k : ℕ) → ((l : ℕ) → l < 4 → a (byte + l) ≡ r (k + l))
      → (Holds a 4 (high_half byte) ↔ Each 4 (λ l. r (k + l) ≡ number_wires 4 3 l))
  unfolding high_half
  half-run byte k same =
      each_iff 4 _ _
      (λ l h.
      subst (λ x. Satisfied a (row_of (high_half byte l)) ↔ (x ≡ number_wires 4 3 l)) (same l h)
      (fixed_row a J (byte + l) (number_wires 4 3 l) (number-wire_lt 4 3 l)))

  -- the rows of a number, where the digits are x
  number_rows : (d : Digits) (x : ℕ) → digits_on a d ≡ x → x < 256 → (b : Bound) → bound_value b ≤ 99 → (n : ℕ) → n ≤ 7 → (w : ℕ)
      → (Holds a (n + 1) (subtracted d b n w)
      ↔ ((cond (is_lower b) (bound_value b) x ≤ cond (is_lower b) x (bound_value b))
      × (cond (is_lower b) x (bound_value b) - cond (is_lower b) (bound_value b) x < 2 ^ n)
      × Agree a w n (number_wires n (cond (is_lower b) x (bound_value b) - cond (is_lower b) (bound_value b) x))))
  number_rows d x e small b low n short w =
      subst
      (λ (y : ℕ). Holds a (n + 1) (subtracted d b n w)
      ↔ ((cond (is_lower b) (bound_value b) y ≤ cond (is_lower b) y (bound_value b))
      × (cond (is_lower b) y (bound_value b) - cond (is_lower b) (bound_value b) y < 2 ^ n)
      × Agree a w n (number_wires n (cond (is_lower b) y (bound_value b) - cond (is_lower b) (bound_value b) y))))
      e
      (difference_run a J d n (omega arith) short b (omega arith) w)

  pub appended-run : (lower upper : ℕ) → lower ≤ 99 → upper ≤ 99
      → (Holds a 34 (axle_form lower upper) ↔ (BandBits lower upper r × Agree a tens_left 22 (appended lower upper r)))
  unfolding axle_form numbers
  appended-run lower upper hl hu =
      let satisfied : ℕ → Form → Type 0 = λ k f. Satisfied a (row_of f) in
      let first = half-run tens_byte (8 * tens_place) (λ l h. reads l (omega arith)) in
      let second =
      half-run units_byte (8 * units_place)
      (λ l h.
      let wire : units_byte + l ≡ tens_byte + (8 + l) = omega arith in
      let bit : 8 * tens_place + (8 + l) ≡ 8 * units_place + l = omega arith in
      ap a wire ∙ reads (8 + l) (omega arith) ∙ ap r bit) in
      let both : digits_on a axles ≡ axles_of r = omega (arith, tens_on, units_on) in
      let one : digits_on a (digit_of tens_byte) ≡ tens r = omega (arith, tens_on) in
      let other : digits_on a (digit_of units_byte) ≡ units r = omega (arith, units_on) in
      let t : tens r < 16 = digit_lt tens_place in
      let u : units r < 16 = digit_lt units_place in
      let nine = number_rows (digit_of tens_byte) (tens r) one (omega arith) (Upper 9) (lit≤ tt) 4 (lit≤ tt) tens_left in
      let nine' = number_rows (digit_of units_byte) (units r) other (omega arith) (Upper 9) (lit≤ tt) 4 (lit≤ tt) units_left in
      let least = number_rows axles (axles_of r) both (omega arith) (Lower lower) hl 7 (lit≤ tt) above_lower in
      let most = number_rows axles (axles_of r) both (omega arith) (Upper upper) hu 7 (lit≤ tt) below_upper in
      Iff.trans (each_beside satisfied 4 30 _ _)
      (Iff.trans
      (and_given first
      (λ _.
      Iff.trans (each_beside satisfied 4 26 _ _)
      (and_given second
      (λ _.
      Iff.trans (each_beside satisfied 5 21 _ _)
      (and_given nine
      (λ _.
      Iff.trans (each_beside satisfied 5 16 _ _)
      (and_given nine' (λ _. Iff.trans (each_beside satisfied 8 8 _ _) (and_given least (λ _. most)))))))))) (
        λ (high, (high', (nine, (nine', (least, most))))). (
          record {
            tens_high = high;
            units_high = high';
            tens = nine.0;
            units = nine'.0;
            least = least.0;
            most = most.0;
          },
          (agree_beside a tens_left 4 18 _ _).1
              (nine.2, (agree_beside a units_left 4 14 _ _).1 (nine'.2, (agree_beside a above_lower 7 7 _ _).1 (least.2, most.2))),
        ),
        λ (band, agree).
            let first = (agree_beside a tens_left 4 18 _ _).0 agree in
            let second = (agree_beside a units_left 4 14 _ _).0 first.1 in
            let third = (agree_beside a above_lower 7 7 _ _).0 second.1 in (
              band.tens_high,
              (
                band.units_high,
                (
                  (band.tens, omega arith, first.0),
                  (
                    (band.units, omega arith, second.0),
                    (
                      (band.least, omega (arith, band.tens, band.units), third.0),
                      (band.most, omega (arith, hu), third.1),
                    ),
                  ),
                ),
              ),
            ),
      ))
