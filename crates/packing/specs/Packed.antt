-- Packed assignments (document 02, request 1): "wire w goes to byte floor(w / 8), the first wire in the highest bit, spare low
-- bits zero". The packed bytes are those of encoding's specs/Packed, of which bit w is the value of wire w.
use Rattle.std.specs.Prelude.{List, ℕ}
use Rattle.assignment.specs.Assignment.{entry_bytes}
use Rattle.encoding.specs.Bits.{bit_of_bytes}

-- "unpacking to 8-byte entries": the bytes of n entries, of which entry w is bit w of the packed bytes
unfoldable pub unpacked_bytes : ℕ → List ℕ → List ℕ
unpacked_bytes n packed = entry_bytes n (bit_of_bytes packed)
