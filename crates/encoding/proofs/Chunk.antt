-- Numbers of four and eight bytes as the library reads and writes them. A first chunk of the bytes from `at` on is these bytes; the
-- library's sum over them is the number that they write, and its bytes of a number are the number's digits to the base 256.
use Rattle.std.proofs.Common.{◌≡◌, ℕ, ◌+◌, ◌-◌, ◌*◌, ◌<◌, ◌≤◌, List, ◌++◌, length, get_or, take, drop, sym, ap, ◌∙◌, add-zero, arith, length-take, get_or-drop, get_or-take}
use Rattle.std.specs.Array.{IsFirstChunk}
use Rattle.std.specs.Int.{w32, w64, from_be_bytes, from_le_bytes, to_be_bytes, to_le_bytes}
use Rattle.std.proofs.lemmas.Slice.{put_mid-paste}
use borrow.Rule.Slice.PartMut.{put_mid}
use lib.Seq.{sets-eq, take_all}
use native.Mathlib.Nat.{div-one, le_of_eq}
use Rattle.encoding.proofs.Bits.{number_of-byte, number_of_bytes}
use Rattle.encoding.proofs.Bytes.{from_bytes_congruent, from-four, from_parts}
use Rattle.encoding.specs.Bits.{bit_of_bytes, number}
use Rattle.encoding.specs.Bytes.{Bytes, from_least_first, highest_first, least_first}
use Rattle.encoding.specs.Sequence.{tab}
use Rattle.encoding.specs.Written.{Written}

-- Read.

module _ (bytes chunk : List ℕ) (at m n : ℕ) (first : IsFirstChunk (take m (drop at bytes)) chunk n) where
  get_or-chunk : (k : ℕ) → k < n → get_or chunk k 0 ≡ get_or bytes (at + k) 0
  get_or-chunk k l =
      ap (λ (xs : List ℕ). get_or xs k 0) first.same
      ∙ get_or-take n (take m (drop at bytes)) k 0 l
      ∙ get_or-take m (drop at bytes) k 0 (omega (arith, first.enough, length-take m (drop at bytes)))
      ∙ get_or-drop at bytes k 0

  from_chunk : from_least_first n chunk 0 ≡ from_least_first n bytes at
  from_chunk = from_bytes_congruent n chunk bytes 0 at (λ i l. ap (λ k. get_or chunk k 0) (omega arith) ∙ get_or-chunk i l)

pub four_read : (bytes chunk : List ℕ) (at m : ℕ) → IsFirstChunk (take m (drop at bytes)) chunk 4
    → from_le_bytes w32 chunk ≡ from_least_first 4 bytes at
four_read bytes chunk at m first = omega (arith, from-four chunk 0) ∙ from_chunk bytes chunk at m 4 first

pub eight_read : (bytes chunk : List ℕ) (at m : ℕ) → IsFirstChunk (take m (drop at bytes)) chunk 8
    → from_le_bytes w64 chunk ≡ from_least_first 8 bytes at
eight_read bytes chunk at m first =
    omega (arith, from_parts 4 4 chunk 0, from-four chunk 0, from-four chunk 4) ∙ from_chunk bytes chunk at m 8 first

-- each byte is what its eight bits write, so four bytes write a word to the base 256, the first byte the highest
pub word_read : (bytes chunk : List ℕ) (at m : ℕ) → Bytes bytes → IsFirstChunk (take m (drop at bytes)) chunk 4
    → from_be_bytes w32 chunk ≡ number 32 (λ i. bit_of_bytes bytes (8 * at + i))
word_read bytes chunk at m all first =
    omega (
      arith,
      ap (λ k. get_or bytes k 0) (add-zero at),
      get_or-chunk bytes chunk at m 4 first 0 (omega arith),
      get_or-chunk bytes chunk at m 4 first 1 (omega arith),
      get_or-chunk bytes chunk at m 4 first 2 (omega arith),
      get_or-chunk bytes chunk at m 4 first 3 (omega arith),
      number_of-byte bytes at (all at),
      number_of_bytes bytes at 1 (all (at + 1)),
      number_of_bytes bytes at 2 (all (at + 2)),
      number_of_bytes bytes at 3 (all (at + 3)),
    )

-- Written.

pub part_written : (at n : ℕ) (xs ys l : List ℕ) → ys ≡ xs → length xs ≡ n → at + n ≤ length l
    → Written at xs l (put_mid at (at + n - at) l ys)
part_written at n xs ys l copied long room =
    record {
      left =
          put_mid-paste at (at + n - at) l ys xs n copied (omega arith) (sym long)
          ∙ ap (λ (zs : List ℕ). take at l ++ zs ++ drop (at + n) l) (take_all n xs (le_of_eq long))
          ∙ ap (λ k. take at l ++ xs ++ drop (at + k) l) (sym long)
          ∙ sym (sets-eq xs l at (omega arith));
    }

pub word_bytes : (w : ℕ) → to_be_bytes w32 w ≡ highest_first 4 w
unfolding highest_first tab
word_bytes w = simp div-one

pub eight_bytes_lem : (x : ℕ) → to_le_bytes w64 x ≡ least_first 8 x
unfolding least_first tab
eight_bytes_lem x = simp div-one

pub number_bytes : (x : ℕ) → to_be_bytes w64 x ≡ highest_first 8 x
unfolding highest_first tab
number_bytes x = simp div-one
