-- A sum's row and its 34 wires. The row's value is the addends and the constant less the number that the result and the
-- carries write, all far below p; so the row holds where the two are equal. And a number below 2^34 is the one that 34 bits
-- write exactly where they are the bits of its word and of its carries.
use Rattle.std.proofs.Common.{◌≡◌, ℕ, ◌+◌, ◌-◌, ◌*◌, ◌/◌, ◌%◌, ◌^◌, ◌<◌, ◌↔◌, [], ◌∷◌, ◌++◌, sym, ap, ◌∙◌, ap₂, le_trans, mul-one, arith, pow_mono}
use mathlib.Core.Logic.Iff
use Rattle.encoding.proofs.Bits.{bit_of-number, number_cong, number_lt, number_of-bits}
use Rattle.encoding.proofs.Sequence.{Each, each_add, each_beside}
use Rattle.encoding.specs.Bits.{number}
use Rattle.encoding.specs.Sequence.{tab}
use Rattle.field.specs.Field.{p}
use Rattle.forms.proofs.exact.Forms.{balance}
use Rattle.forms.proofs.exact.Runs.{Judged, Reads}
use Rattle.forms.proofs.exact.Values.{row-letters, value-append, value-less, value-weighted}
use Rattle.forms.specs.Positions.{at, one, wire_at}
use Rattle.forms.specs.Former.{former_value}
use Rattle.forms.specs.Rows.{Satisfied, ◌·◌, addend_terms, less, letters, row_of, taken, weighted}
use Rattle.forms.specs.WordWires.{carry_wires, sum_wires, word_wires}
use Rattle.forms.specs.declared.form.Addends.{Addends}
use Rattle.forms.specs.declared.form.Form.TheVariants.{Sum}
use Rattle.forms.specs.declared.position.WordPosition.{WordPosition}
use Rattle.refusal.specs.declared.numbers.WireNumber.{WireNumber}
use Rattle.sm3.proofs.Bits.{bit_lt}
use Rattle.sm3.proofs.WordBits.{bit-number, number-bits}
use Rattle.sm3.specs.Sm3.{truncated}
use Rattle.sm3.specs.Words.{bit}

-- the 2 carries after a word's 32 wires, and what all 34 write
abbrev carries : (ℕ → ℕ) → ℕ → ℕ
carries b i = b (32 + i)

abbrev pub written : (ℕ → ℕ) → ℕ
written b = number 32 b + 2 ^ 32 * number 2 (carries b)

module _ (b : ℕ → ℕ) (bits : Each 34 (λ k. b k < 2)) where
  word-bits : Each 32 (λ k. b k < 2)
  word-bits = ((each_add (λ k. b k < 2) 32 2).0 bits).0

  carry_bits : Each 2 (λ k. carries b k < 2)
  carry_bits = ((each_add (λ k. b k < 2) 32 2).0 bits).1

  written_lt : written b < 2 ^ 34
  written_lt = omega (arith, number_lt 32 b word-bits, number_lt 2 (carries b) carry_bits)

  -- bits are those of the number that they write
  written-bits : (s : ℕ) → s ≡ written b → Each 34 (λ k. b k ≡ sum_wires s k)
  unfolding sum_wires carry_wires word_wires
  written-bits s e =
      let low : number 32 b < 2 ^ 32 = number_lt 32 b word-bits in
      let word : s % 2 ^ 32 ≡ number 32 b = omega arith in
      let above : s / 2 ^ 32 ≡ number 2 (carries b) = omega arith in
      (each_beside (λ k v. b k ≡ v) 32 2 (word_wires (truncated s)) (carry_wires s)).1 (
        λ k l. sym (ap (bit k) word ∙ bit-number b k word-bits l),
        λ k l. sym (ap (λ (n : ℕ). n / 2 ^ (1 - k) % 2) above ∙ bit_of-number 2 (carries b) k carry_bits l),
      )

pub sum-bits : (s : ℕ) (b : ℕ → ℕ) → s < 2 ^ 34
    → ((Each 34 (λ k. b k < 2) × (s ≡ written b)) ↔ Each 34 (λ k. b k ≡ sum_wires s k))
unfolding sum_wires carry_wires word_wires
sum-bits s b h = (
  λ g. written-bits b g.0 s g.1,
  λ g.
      let parts = (each_beside (λ k v. b k ≡ v) 32 2 (word_wires (truncated s)) (carry_wires s)).0 g in
      let word : number 32 b ≡ s % 2 ^ 32 =
      number_cong 32 b (λ i. bit i (truncated s)) parts.0 ∙ number-bits (truncated s) (omega arith) in
      let above : number 2 (carries b) ≡ s / 2 ^ 32 % 2 ^ 2 =
      number_cong 2 (carries b) (λ i. s / 2 ^ 32 / 2 ^ (1 - i) % 2) parts.1 ∙ number_of-bits 2 (s / 2 ^ 32) in (
        (each_add (λ k. b k < 2) 32 2).1
            (λ k l. rw (parts.0 k l) (bit_lt k (truncated s)), λ k l. rw (parts.1 k l) (omega arith)),
        omega arith,
      ),
)

module _ (a : ℕ → ℕ) where
  value-word : (x : WordPosition) (X : ℕ) → X < 2 ^ 32 → Reads a x X → former_value a (weighted x) ≡ X
  unfolding weighted
  value-word x X h reads =
      value-weighted a 32 0 (wire_at x) ∙ mul-one (number 32 (λ i. a (wire_at x i).0))
      ∙ number_cong 32 (λ i. a (wire_at x i).0) (λ i. bit i X) reads ∙ number-bits X h

  pub value-words : (x y : WordPosition) (X Y : ℕ) → X < 2 ^ 32 → Y < 2 ^ 32 → Reads a x X → Reads a y Y
      → former_value a (weighted x ++ weighted y) ≡ X + Y
  value-words x y X Y hx hy rx ry =
      value-append a (weighted x) (weighted y) ∙ ap₂ ◌+◌ (value-word x X hx rx) (value-word y Y hy ry)

  value_taken : (r : WireNumber) → (former_value a (taken r) + written (λ i. a (r.0 + i))) % p ≡ 0
  unfolding taken former_value number
  value_taken r =
      let weight : ℕ → ℕ = λ i. 2 ^ (31 - i) in
      omega (
        arith,
        value-append a (tab 32 (λ i. less (weight i) · at r i)) (less (2 ^ 33) · at r 32 ∷ less (2 ^ 32) · at r 33 ∷ []),
        value-less a 32 weight (at r) (λ i l. le_trans (pow_mono {j = 31} (omega arith)) (omega arith)),
        value-weighted a 32 0 (at r),
      )

  pub sum_row : (J : Judged a) (s : Addends) (c v : ℕ) (r : WireNumber) → former_value a (addend_terms s) ≡ v → v + c < 2 ^ 34
      → Each 34 (λ i. a (r.0 + i) < 2) → (Satisfied a (row_of (Sum s c r)) ↔ (v + c ≡ written (λ i. a (r.0 + i))))
  unfolding letters former_value
  sum_row J s c v r e hv bits =
      let w : ℕ = written (λ i. a (r.0 + i)) in
      let hw : w < 2 ^ 34 = written_lt (λ i. a (r.0 + i)) bits in
      Iff.trans (row-letters a (Sum s c r))
      (rw J.one
      (balance _ 0 (v + c) w 0 ((former_value a (taken r) + w) / p) (omega arith) (omega arith)
      (omega (
        arith,
        value-append a (addend_terms s ++ (c · one ∷ [])) (taken r),
        value-append a (addend_terms s) (c · one ∷ []),
        ap (λ (n : ℕ). c * n) J.one,
        value_taken r,
      ))))
