-- Bits, as numbers and in bytes: "the first bit the highest" (document 01, "SM3 as used").
use Rattle.std.specs.Prelude.{List, ℕ, zero, suc, ◌+◌, ◌-◌, ◌*◌, ◌/◌, ◌%◌, ◌^◌, get_or}
use Rattle.encoding.specs.Sequence.{tab}

-- the number that the first n bits of a sequence write, the first the highest
unfoldable pub number : ℕ → (ℕ → ℕ) → ℕ
number zero b = 0
number (suc n) b = number n b * 2 + b n

-- "the highest bit of a byte come[s] first": bit k of a list of bytes
unfoldable pub bit_of_bytes : List ℕ → ℕ → ℕ
bit_of_bytes bytes k = get_or bytes (k / 8) 0 / 2 ^ (7 - k % 8) % 2

-- .. and the n bytes that a sequence of bits writes, eight to a byte
unfoldable pub bytes_of_bits : ℕ → (ℕ → ℕ) → List ℕ
bytes_of_bits n b = tab n (λ k. number 8 (λ i. b (8 * k + i)))
