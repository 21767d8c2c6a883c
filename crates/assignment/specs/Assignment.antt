-- Assignments as bytes (document 01, "Field and assignment"; document 02, request 6).
use Rattle.std.specs.Prelude.{ℕ, zero, suc, ◌*◌, List, [], ◌++◌, take, drop}
use Rattle.encoding.specs.Bytes.{from_least_first, least_first}

-- "An assignment has 8 bytes a wire, least byte first": the number that those of wire w write. It is taken as it stands: wherever an
-- assignment is judged or packed, refusal 20 has turned away "an entry of p or more" before
unfoldable pub entry : List ℕ → ℕ → ℕ
entry bytes w = from_least_first 8 bytes (8 * w)

-- the bytes of n entries
unfoldable pub entry_bytes : ℕ → (ℕ → ℕ) → List ℕ
entry_bytes zero s = []
entry_bytes (suc n) s = entry_bytes n s ++ least_first 8 (s n)

-- the 8 bytes of wire w
unfoldable pub wire_bytes : List ℕ → ℕ → List ℕ
wire_bytes bytes w = take 8 (drop (8 * w) bytes)
