-- Packed bytes and the bits that are packed. The bits of packed bytes are these and then zeros, and bytes are determined by
-- their bits: so packed bytes are known by the bits that are packed and by their spare bits, which are 0. The spare bits are
-- the low ones of the last byte.
use mathlib.Core.List.{List}
use mathlib.Core.Logic.{by_cases}
use mathlib.Core.Path.{◌≡◌, ◌∙◌, ap, subst, sym}
use Prim.Native.Nat.{ℕ, ◌+◌, ◌-◌, ◌*◌, ◌/◌, ◌%◌, ◌^◌, ◌<◌}
use native.Mathlib.Decide.{dec_lt}
use native.Mathlib.Omega.{arith}
use lib.Dec.{lit<}
use lib.ListN.{get_or, length}
use Rattle.encoding.proofs.Bits.{bit_of-byte, bit_of_bytes_lt, number_cong, number_of-bits, number-zero, zero_bits}
use Rattle.encoding.proofs.ByteBits.{bit_of-bits, bytes_ext, bytes_of-bits, bytes_of-bits_congruent, length-bytes_of-bits}
use Rattle.encoding.proofs.Sequence.{beside_first, beside_then}
use Rattle.encoding.specs.Bits.{bit_of_bytes, number}
use Rattle.encoding.specs.Bytes.{Bytes}
use Rattle.encoding.specs.Sequence.{beside}
use Rattle.encoding.specs.Packed.{packed_bytes, packed_length, spare_bits}

pub length-packed : (n : ℕ) (s : ℕ → ℕ) → length (packed_bytes n s) ≡ packed_length n
unfolding packed_bytes
length-packed n s = length-bytes_of-bits (packed_length n) _

-- n bits alone are packed
pub packed_congruent : (n : ℕ) (s t : ℕ → ℕ) → ((k : ℕ) → k < n → s k ≡ t k) → packed_bytes n s ≡ packed_bytes n t
unfolding packed_bytes
packed_congruent n s t same =
    bytes_of-bits_congruent (packed_length n) _ _
    (λ k l.
    by_cases (dec_lt k n) (λ below. beside_first n s _ k below ∙ same k below ∙ sym (beside_first n t _ k below))
    (λ past.
    let place : n + (k - n) ≡ k = omega arith in
    subst (λ i. beside n s (λ k. 0) i ≡ beside n t (λ k. 0) i) place (beside_then n s _ (k - n) ∙ sym (beside_then n t _ (k - n)))))

module _ (n : ℕ) (s : ℕ → ℕ) (bits : (w : ℕ) → w < n → s w < 2) where
  all_bits : (k : ℕ) → beside n s (λ k. 0) k < 2
  all_bits k =
      by_cases (dec_lt k n) (λ l. subst (λ x. x < 2) (sym (beside_first n s (λ k. 0) k l)) (bits k l))
      (λ past.
      let place : n + (k - n) ≡ k = omega arith in
      subst (λ i. beside n s (λ k. 0) i < 2) place (subst (λ x. x < 2) (sym (beside_then n s (λ k. 0) (k - n))) (lit< tt)))

  pub packed_bytes_lem : Bytes (packed_bytes n s)
  unfolding packed_bytes
  packed_bytes_lem = bytes_of-bits (packed_length n) _ (λ k l. all_bits k)

  bit_of-packed : (k : ℕ) → k < 8 * packed_length n → bit_of_bytes (packed_bytes n s) k ≡ beside n s (λ k. 0) k
  unfolding packed_bytes
  bit_of-packed = bit_of-bits (packed_length n) _ (λ k l. all_bits k)

  pub packed-bit : (w : ℕ) → w < n → bit_of_bytes (packed_bytes n s) w ≡ s w
  packed-bit w l = bit_of-packed w (omega arith) ∙ beside_first n s (λ k. 0) w l

  pub spare_of_packed : spare_bits n (packed_bytes n s) ≡ 0
  unfolding spare_bits
  spare_of_packed =
      number-zero (8 * packed_length n - n) _ (λ i l. bit_of-packed (n + i) (omega arith) ∙ beside_then n s (λ k. 0) i)

  -- bytes with these bits and no spare bit set
  pub packed_known : (p : List ℕ) → Bytes p → length p ≡ packed_length n → spare_bits n p ≡ 0
      → ((w : ℕ) → w < n → bit_of_bytes p w ≡ s w) → packed_bytes n s ≡ p
  unfolding spare_bits
  packed_known p bytes long spare same =
      bytes_ext (packed_bytes n s) p (length-packed n s ∙ sym long) packed_bytes_lem bytes
      (λ k l.
      by_cases (dec_lt k n) (λ below. packed-bit k below ∙ sym (same k below))
      (λ past.
      let place : n + (k - n) ≡ k = omega arith in
      let inside : k < 8 * packed_length n = omega (arith, length-packed n s) in
      let zero : bit_of_bytes p (n + (k - n)) ≡ 0 =
      zero_bits (8 * packed_length n - n) _ (λ i l. bit_of_bytes_lt p (n + i)) spare (k - n) (omega arith) in
      bit_of-packed k inside
      ∙ ap (beside n s (λ k. 0)) (sym place)
      ∙ beside_then n s (λ k. 0) (k - n)
      ∙ sym (ap (bit_of_bytes p) (sym place) ∙ zero)))

-- Where n bits do not fill their last byte, the spare bits are its low ones.
pub spare_low : (n : ℕ) (packed : List ℕ) → 0 < n % 8 → spare_bits n packed ≡ get_or packed (n / 8) 0 % 2 ^ (8 - n % 8)
unfolding spare_bits
spare_low n packed inside =
    let count : 8 * packed_length n - n ≡ 8 - n % 8 = omega arith in
    ap (λ m. number m (λ k. bit_of_bytes packed (n + k))) count
    ∙ number_cong (8 - n % 8) _ _
    (λ i l.
    let place : n + i ≡ 8 * (n / 8) + (n % 8 + i) = omega arith in
    let weight : 7 - (n % 8 + i) ≡ 8 - n % 8 - 1 - i = omega arith in
    ap (bit_of_bytes packed) place
    ∙ bit_of-byte packed (n / 8) (n % 8 + i) (omega arith)
    ∙ ap (λ k. get_or packed (n / 8) 0 / 2 ^ k % 2) weight)
    ∙ number_of-bits (8 - n % 8) (get_or packed (n / 8) 0)

pub spare_none : (n : ℕ) (packed : List ℕ) → n % 8 ≡ 0 → spare_bits n packed ≡ 0
unfolding spare_bits number
spare_none n packed whole =
    let count : 8 * packed_length n - n ≡ 0 = omega arith in
    ap (λ m. number m (λ k. bit_of_bytes packed (n + k))) count
