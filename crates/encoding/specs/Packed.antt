-- Bits packed into whole bytes, the first in the highest bit of the first byte: the wires of an assignment (document 02, request 1)
-- and the bits of a record (request 2).
use Rattle.std.specs.Prelude.{List, ℕ, ◌+◌, ◌-◌, ◌*◌, ◌/◌}
use Rattle.encoding.specs.Bits.{bit_of_bytes, bytes_of_bits, number}
use Rattle.encoding.specs.Sequence.{beside}

-- "over 8 rounded up": how many bytes n bits are packed into
abbrev pub packed_length : ℕ → ℕ
packed_length n = (n + 7) / 8

-- "spare low bits zero": the packed bytes of n bits with the values s, which are 0 and 1
unfoldable pub packed_bytes : ℕ → (ℕ → ℕ) → List ℕ
packed_bytes n s = bytes_of_bits (packed_length n) (beside n s (λ k. 0))

-- the spare bits behind n bits, as a number: it is 0 where none is set
unfoldable pub spare_bits : ℕ → List ℕ → ℕ
spare_bits n packed = number (8 * packed_length n - n) (λ k. bit_of_bytes packed (n + k))
