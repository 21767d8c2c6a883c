-- The message of a record and its digest (document 01, "SM3 as used" and "The words of demand 3"). A record is n bits; how
-- it is handed over in bytes says `Handed` of the crate limits.
use Rattle.std.specs.Prelude.{ℕ, zero, suc, ◌+◌, ◌-◌, ◌*◌, ◌/◌, ◌%◌, ◌^◌, cond, List, ◌++◌, ◌==◌, nat_lt}
use Rattle.encoding.specs.Bits.{bit_of_bytes}
use Rattle.encoding.specs.Bytes.{highest_first}
use Rattle.limits.specs.Blocks.{blocks}
use Rattle.sm3.specs.Sm3.{start, block}
use Rattle.sm3.specs.declared.state.State.{State}

-- "Padding: one bit 1, zeros, then the bit length in 64 bits, highest first": bit k of the message of the n bits r
unfoldable pub message : ℕ → (ℕ → ℕ) → ℕ → ℕ
message n r k =
    cond (nat_lt k n) (r k)
    (cond (k == n) 1
    (cond (nat_lt k (512 * blocks n - 64)) 0
    (n / 2 ^ (512 * blocks n - 1 - k) % 2)))

-- "The message is .. in n blocks of 512 bits": bit k of block i
unfoldable pub block_bits : (ℕ → ℕ) → ℕ → ℕ → ℕ
block_bits m i k = m (512 * i + k)

-- "Block 0 begins with the start words, each later block with the result of the one before": what block i begins with
unfoldable pub chaining_value : (ℕ → ℕ) → ℕ → State
chaining_value m zero = start
chaining_value m (suc i) = block (block_bits m i) (chaining_value m i)

-- "the last result is the digest", of n bits
unfoldable pub digest_of : ℕ → (ℕ → ℕ) → State
digest_of n r = chaining_value (message n r) (blocks n)

-- "in .. digests the highest byte of a word .. come[s] first": the 32 bytes of eight words
unfoldable pub bytes_of : State → List ℕ
bytes_of s =
    highest_first 4 s.a ++ highest_first 4 s.b ++ highest_first 4 s.c ++ highest_first 4 s.d
    ++ highest_first 4 s.e ++ highest_first 4 s.f ++ highest_first 4 s.g ++ highest_first 4 s.h

-- the digest of a record of n bits that is handed over in these bytes
unfoldable pub digest_bytes : ℕ → List ℕ → List ℕ
digest_bytes n bytes = bytes_of (digest_of n (bit_of_bytes bytes))
