-- Words packed one after the other. A word's four bytes are those that its 32 bits write, so they are the first four of the bytes
-- that these and the bits behind them write; and one wire more is the highest bit of a byte of its own, whose other bits are spare.
use mathlib.Core.List.{List, [], ◌∷◌, ◌++◌}
use mathlib.Core.Path.{◌≡◌, ◌∙◌, ap, ap₂, sym}
use Prim.Native.Nat.{ℕ, ◌+◌, ◌-◌, ◌*◌, ◌/◌, ◌%◌, ◌<◌, ◌≤◌}
use native.Mathlib.Nat.{sub-zero, zero-add}
use native.Mathlib.Omega.{arith}
use Rattle.circuit.specs.Wires.{wire_count}
use Rattle.circuit.specs.declared.circuits.Circuit.TheVariants.{Record}
use Rattle.encoding.proofs.Bits.{number_split, number-zero}
use Rattle.encoding.proofs.ByteBits.{bytes_of-bits-add, bytes_of-bits_congruent}
use Rattle.encoding.proofs.Sequence.{beside_first, beside_then}
use Rattle.encoding.proofs.WordBytes.{bytes_of-number}
use Rattle.encoding.specs.Bits.{bytes_of_bits, number}
use Rattle.encoding.specs.Bytes.{highest_first}
use Rattle.encoding.specs.Packed.{packed_bytes, packed_length}
use Rattle.encoding.specs.Sequence.{beside, tab}

-- the wires of a record are pairs of words and one wire more
pub one_over : (n : ℕ) → wire_count (Record n) % 64 ≡ 1
unfolding wire_count
one_over n = omega arith

-- the four bytes of a word before those of m words that follow it
one-word-before : (s : ℕ → ℕ) (m x : ℕ) → ((k : ℕ) → k < 32 → s k < 2) → x ≡ number 32 s
    → highest_first 4 x ++ bytes_of_bits (4 * m) (λ k. s (32 + k)) ≡ bytes_of_bits (4 * (m + 1)) s
one-word-before s m x bits e =
    let count : 4 + 4 * m ≡ 4 * (m + 1) = omega arith in
    ap (λ l. l ++ bytes_of_bits (4 * m) (λ k. s (32 + k))) (ap (highest_first 4) e ∙ bytes_of-number 4 s bits)
    ∙ sym (bytes_of-bits-add 4 (4 * m) s)
    ∙ ap (λ n. bytes_of_bits n s) count

-- the bytes of the words from word j on, of n
abbrev pub words_from : (ℕ → ℕ) → ℕ → ℕ → List ℕ
words_from s n j = bytes_of_bits (4 * (n - j)) (λ k. s (32 * j + k))

pub no_words : (s : ℕ → ℕ) (n : ℕ) → words_from s n n ≡ []
unfolding bytes_of_bits tab
no_words s n =
    let none : 4 * (n - n) ≡ 0 = omega arith in
    ap (λ m. bytes_of_bits m (λ k. s (32 * n + k))) none

pub one_word_more : (s : ℕ → ℕ) (n j x : ℕ) → 0 < j → j ≤ n → ((k : ℕ) → k < 32 → s (32 * (j - 1) + k) < 2)
    → x ≡ number 32 (λ i. s (32 * (j - 1) + i)) → highest_first 4 x ++ words_from s n j ≡ words_from s n (j - 1)
one_word_more s n j x some l bits e =
    let count : n - j + 1 ≡ n - (j - 1) = omega arith in
    ap (λ l. highest_first 4 x ++ l)
    (bytes_of-bits_congruent (4 * (n - j)) _ _
    (λ k h.
    let place : 32 * j + k ≡ 32 * (j - 1) + (32 + k) = omega arith in
    ap s place))
    ∙ one-word-before (λ k. s (32 * (j - 1) + k)) (n - j) x bits e
    ∙ ap (λ m. bytes_of_bits (4 * m) (λ k. s (32 * (j - 1) + k))) count

pub all_words : (s : ℕ → ℕ) (n : ℕ) → words_from s n 0 ≡ bytes_of_bits (4 * n) s
all_words s n = ap (λ m. bytes_of_bits (4 * m) (λ k. s (0 + k))) (sub-zero n) ∙ bytes_of-bits_congruent (4 * n) _ s (λ k l. ap s (zero-add k))

-- a byte whose first bit is v and whose others are 0
first_bit : (b : ℕ → ℕ) (v : ℕ) → b 0 ≡ v → number 7 (λ i. b (1 + i)) ≡ 0 → number 8 b ≡ 128 * v
unfolding number
first_bit b v e rest = number_split 1 7 b ∙ omega arith

-- Words and one wire more.
module _ (wires : ℕ) (over : wires % 32 ≡ 1) where
  abbrev words : ℕ
  words = wires / 32

  -- the last byte has the last wire, and no other bit
  last_byte : (s : ℕ → ℕ) → bytes_of_bits 1 (λ k. beside wires s (λ k. 0) (8 * (4 * words) + k)) ≡ 128 * s (wires - 1) ∷ []
  unfolding bytes_of_bits tab
  last_byte s =
      let b : ℕ → ℕ = λ i. beside wires s (λ k. 0) (8 * (4 * words) + (8 * 0 + i)) in
      let at : 8 * (4 * words) + (8 * 0 + 0) ≡ wires - 1 = omega arith in
      ap (λ y. y ∷ [])
      (first_bit b (s (wires - 1)) (ap (beside wires s (λ k. 0)) at ∙ beside_first wires s (λ k. 0) (wires - 1) (omega arith))
      (number-zero 7 _
      (λ i l.
      let past : 8 * (4 * words) + (8 * 0 + (1 + i)) ≡ wires + i = omega arith in
      ap (beside wires s (λ k. 0)) past ∙ beside_then wires s (λ k. 0) i)))

  pub packed-words : (s : ℕ → ℕ) (x : ℕ) → x ≡ s (wires - 1) → bytes_of_bits (4 * words) s ++ (128 * x ∷ []) ≡ packed_bytes wires s
  unfolding packed_bytes
  packed-words s x e =
      let count : 4 * words + 1 ≡ packed_length wires = omega arith in
      let b : ℕ → ℕ = beside wires s (λ k. 0) in
      ap₂ ◌++◌
      (bytes_of-bits_congruent (4 * words) s b (λ k l. sym (beside_first wires s (λ k. 0) k (omega arith))))
      (ap (λ v. 128 * v ∷ []) e ∙ sym (last_byte s))
      ∙ sym (bytes_of-bits-add (4 * words) 1 b)
      ∙ ap (λ m. bytes_of_bits m b) count
