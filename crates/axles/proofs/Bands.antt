-- Bands of bytes and of bits. A byte is a digit exactly where its high half is 3 and its low half no more than 9, which is then the digit; so what
-- the test asks of two bytes is what the appended rows ask of their bits.
use mathlib.Core.Bool.{and-eq-true_iff, true}
use mathlib.Core.List.{List}
use mathlib.Core.Logic.{◌↔◌}
use mathlib.Core.Path.{◌≡◌, ◌∙◌, ap, ap₂, sym}
use Prim.Native.Nat.{ℕ, ◌+◌, ◌-◌, ◌*◌, ◌/◌, ◌%◌, ◌^◌, ◌<◌, ◌≤◌}
use native.Mathlib.Omega.{arith}
use borrow.Author.Tests.{le-leb, leb-true}
use lib.Dec.{leb}
use lib.ListN.{get_or}
use lib.Pow.{shr-shr}
use Rattle.axles.specs.Band.{InBand, IsDigit, axles_in, in_band, tens_place, units_place}
use Rattle.axles.specs.Layout.{axles_of, digit, tens, units}
use Rattle.encoding.proofs.Bits.{number_cong, number_of-bits}
use Rattle.encoding.proofs.Sequence.{Each}
use Rattle.encoding.specs.Bits.{bit_of_bytes}
use Rattle.encoding.specs.Bytes.{Bytes}
use Rattle.forms.specs.WordWires.{number_wires}
use Rattle.text.specs.Decimal.{is_digit}

-- The test.

pub digit_iff : (b : ℕ) → (is_digit b ≡ true) ↔ IsDigit b
unfolding is_digit
digit_iff b = (
  λ e. let both = (and-eq-true_iff (leb 48 b) (leb b 57)).0 e in (leb-true 48 b both.0, leb-true b 57 both.1),
  λ (low, high). (and-eq-true_iff (leb 48 b) (leb b 57)).1 (le-leb 48 b low, le-leb b 57 high),
)

pub band_iff : (lower upper : ℕ) (bytes : List ℕ) → (in_band lower upper bytes ≡ true) ↔ InBand lower upper bytes
unfolding in_band
band_iff lower upper bytes =
    let t : ℕ = get_or bytes tens_place 0 in
    let u : ℕ = get_or bytes units_place 0 in (
      λ e.
          let first = (and-eq-true_iff (is_digit t) _).0 e in
          let second = (and-eq-true_iff (is_digit u) _).0 first.1 in
          let bounds = (and-eq-true_iff (leb lower (axles_in bytes)) (leb (axles_in bytes) upper)).0 second.1 in
          record {
            tens = (digit_iff t).0 first.0;
            units = (digit_iff u).0 second.0;
            least = leb-true lower (axles_in bytes) bounds.0;
            most = leb-true (axles_in bytes) upper bounds.1;
          },
      λ h.
          (and-eq-true_iff (is_digit t) _).1 (
            (digit_iff t).1 h.tens,
            (and-eq-true_iff (is_digit u) _).1 (
              (digit_iff u).1 h.units,
              (and-eq-true_iff (leb lower (axles_in bytes)) (leb (axles_in bytes) upper)).1
                  (le-leb lower (axles_in bytes) h.least, le-leb (axles_in bytes) upper h.most),
            ),
          ),
    )

-- Bits.

-- the bits of a record's digit bytes say that it lies in the band
pub record BandBits (lower upper : ℕ) (r : ℕ → ℕ) : Type 0 where
  pub tens_high : Each 4 (λ l. r (8 * tens_place + l) ≡ number_wires 4 3 l)
  pub units_high : Each 4 (λ l. r (8 * units_place + l) ≡ number_wires 4 3 l)
  pub tens : tens r ≤ 9
  pub units : units r ≤ 9
  pub least : lower ≤ axles_of r
  pub most : axles_of r ≤ upper

module _ (bytes : List ℕ) (k : ℕ) where
  abbrev byte : ℕ
  byte = get_or bytes k 0

  -- bit i of the byte
  bit_at : (i : ℕ) → i < 8 → bit_of_bytes bytes (8 * k + i) ≡ byte / 2 ^ (7 - i) % 2
  unfolding bit_of_bytes
  bit_at i l =
      let place : (8 * k + i) / 8 ≡ k = omega arith in
      let rest : (8 * k + i) % 8 ≡ i = omega arith in
      ap₂ (λ (j m : ℕ). get_or bytes j 0 / 2 ^ (7 - m) % 2) place rest

  pub low_half : digit (bit_of_bytes bytes) k ≡ byte % 16
  low_half =
      number_cong 4 _ (λ i. byte / 2 ^ (4 - 1 - i) % 2)
      (λ i l.
      let place : 8 * k + 4 + i ≡ 8 * k + (4 + i) = omega arith in
      let weight : 7 - (4 + i) ≡ 4 - 1 - i = omega arith in
      ap (bit_of_bytes bytes) place ∙ bit_at (4 + i) (omega arith) ∙ ap (λ (m : ℕ). byte / 2 ^ m % 2) weight)
      ∙ number_of-bits 4 byte

  high_half : (l : ℕ) → l < 4 → bit_of_bytes bytes (8 * k + l) ≡ byte / 16 / 2 ^ (4 - 1 - l) % 2
  high_half l h =
      let weight : 7 - l ≡ 4 + (4 - 1 - l) = omega arith in
      bit_at l (omega arith) ∙ ap (λ (m : ℕ). byte / 2 ^ m % 2) weight ∙ ap (λ (x : ℕ). x % 2) (sym (shr-shr byte 4 (4 - 1 - l)))

  -- the byte is a digit exactly where its halves are one's
  digit_halves : byte < 256 → (IsDigit byte ↔ (Each 4 (λ l. bit_of_bytes bytes (8 * k + l) ≡ number_wires 4 3 l) × (digit (bit_of_bytes bytes) k ≤ 9)))
  unfolding number_wires
  digit_halves below = (
    λ (low, high).
        let three : byte / 16 ≡ 3 = omega arith in
        (λ l h. high_half l h ∙ ap (λ (x : ℕ). x / 2 ^ (4 - 1 - l) % 2) three, omega (arith, low_half)),
    λ (half, nine).
        let three : byte / 16 % 16 ≡ 3 =
        sym (number_of-bits 4 (byte / 16)) ∙ number_cong 4 _ (λ l. 3 / 2 ^ (4 - 1 - l) % 2) (λ l h. sym (high_half l h) ∙ half l h) ∙ number_of-bits 4 3 in
        (omega (arith, low_half), omega (arith, low_half)),
  )

pub band_bits : (lower upper : ℕ) (bytes : List ℕ) → Bytes bytes → (InBand lower upper bytes ↔ BandBits lower upper (bit_of_bytes bytes))
band_bits lower upper bytes all =
    let t : ℕ = get_or bytes tens_place 0 in
    let u : ℕ = get_or bytes units_place 0 in (
      λ h.
          let first = (digit_halves bytes tens_place (all tens_place)).0 h.tens in
          let second = (digit_halves bytes units_place (all units_place)).0 h.units in
          let digits : axles_of (bit_of_bytes bytes) ≡ axles_in bytes =
          omega (arith, low_half bytes tens_place, low_half bytes units_place, h.tens, h.units) in
          record {
            tens_high = first.0;
            units_high = second.0;
            tens = first.1;
            units = second.1;
            least = omega (arith, h.least);
            most = omega (arith, h.most);
          },
      λ h.
          let first = (digit_halves bytes tens_place (all tens_place)).1 (h.tens_high, h.tens) in
          let second = (digit_halves bytes units_place (all units_place)).1 (h.units_high, h.units) in
          let digits : axles_of (bit_of_bytes bytes) ≡ axles_in bytes =
          omega (arith, low_half bytes tens_place, low_half bytes units_place, first, second) in
          record { tens = first; units = second; least = omega (arith, h.least); most = omega (arith, h.most) },
    )
