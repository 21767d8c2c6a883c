-- Records of whole bytes (document 02, request 2: "a whole-byte record gives the rows it gave"). Here stands what document 01 says of
-- a record of L bytes, in its own unit, and that it is what the definitions give for 8 L bits.
use Rattle.refusal.specs.Refusals.{done}
use Rattle.std.specs.Prelude.{◌≡◌, ℕ, ◌+◌, ◌-◌, ◌*◌, ◌/◌, cond, List, [], ◌∷◌, ◌++◌, length, nat_lt, Err}
use Rattle.encoding.specs.Bits.{bit_of_bytes}
use Rattle.encoding.specs.Bytes.{highest_first}
use Rattle.encoding.specs.Sequence.{tab}
use Rattle.limits.specs.Blocks.{blocks, most_bits}
use Rattle.limits.specs.Limit.{our_limit}
use Rattle.refusal.specs.declared.outcome.Refusal.TheVariants.{BufferTooShort, LengthOutOfRange}
use Rattle.sm3.specs.Digest.{digest_answer}
use Rattle.sm3.specs.Message.{bytes_of, chaining_value, digest_bytes, message}

-- "Record of L bytes, 0 to 1,015; blocks n = floor((L + 8) / 64) + 1"
abbrev pub most_bytes : ℕ
most_bytes = 1015

abbrev pub blocks_of_bytes : ℕ → ℕ
blocks_of_bytes L = (L + 8) / 64 + 1

-- "Padding: one bit 1, zeros, then the bit length in 64 bits, highest first": after whole bytes these are the byte 128, bytes 0
-- and eight bytes
unfoldable pub padded_bytes : List ℕ → List ℕ
padded_bytes r =
    r ++ (128 ∷ []) ++ tab (64 * blocks_of_bytes (length r) - 9 - length r) (λ k. 0) ++ highest_first 8 (8 * length r)

pub record WholeBytes : Type 0 where
  pub range : (L : ℕ) → nat_lt most_bits (8 * L) ≡ nat_lt most_bytes L
  pub block_count_lem : (L : ℕ) → blocks (8 * L) ≡ blocks_of_bytes L
  pub padded : (r : List ℕ) → message (8 * length r) (bit_of_bytes r) ≡ bit_of_bytes (padded_bytes r)
  -- the digest is the last result over the blocks of the padded bytes
  pub digest : (r : List ℕ)
      → digest_bytes (8 * length r) r ≡ bytes_of (chaining_value (bit_of_bytes (padded_bytes r)) (blocks_of_bytes (length r)))
  -- with our limit: "2. The record length is above 1,015." "4. The buffer to be written is shorter than 32 bytes for a digest"
  pub answer : (r : List ℕ) (room : ℕ)
      → digest_answer our_limit (8 * length r) r room
      ≡ cond (nat_lt most_bytes (length r)) (Err LengthOutOfRange) (cond (nat_lt room 32) (Err BufferTooShort) done)
