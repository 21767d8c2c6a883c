-- Packing and unpacking undo each other, and whatever is accepted can be packed (document 02, requests 1 and 6). All is said of raw
-- bytes, as they are lent, and of the definitions that the contracts of `pack`, `unpack` and `check` cite.
use Rattle.refusal.specs.Refusals.{done}
use Rattle.std.specs.Prelude.{List, ◌≡◌, ℕ, ◌*◌, ◌≤◌, length, take}
use Rattle.circuit.specs.Wires.{wire_count}
use Rattle.circuit.specs.declared.circuits.Circuit.TheVariants.{Record}
use Rattle.encoding.specs.Bytes.{Bytes}
use Rattle.encoding.specs.Packed.{packed_length}
use Rattle.packing.specs.Pack.{pack_answer, pack_left}
use Rattle.packing.specs.Unpack.{unpack_answer, unpack_left}
use Rattle.record.specs.Demand3.{IsAccepted}

-- what `pack` leaves, with a limit of l blocks, at the front of a buffer that held `out`, and what `unpack` leaves there
abbrev pub packs : ℕ → ℕ → List ℕ → List ℕ → List ℕ
packs l n a out = take (packed_length (wire_count (Record n))) (pack_left (pack_answer l n a (length out)) n a out)

abbrev pub unpacks : ℕ → ℕ → List ℕ → List ℕ → List ℕ
unpacks l n p out = take (8 * wire_count (Record n)) (unpack_left (unpack_answer l n p (length out)) n p out)

pub record RoundTrip : Type 0 where
  -- "Unpacking what was packed returns each entry modulo p": none is p or more, so it returns each byte
  pub unpacked : (l n : ℕ) (a out room : List ℕ) → Bytes a → pack_answer l n a (length out) ≡ done → 8 * wire_count (Record n) ≤ length room
      → (unpack_answer l n (packs l n a out) (length room) ≡ done) × (unpacks l n (packs l n a out) room ≡ a)
  -- "packing what was unpacked returns the bytes"
  pub packed : (l n : ℕ) (p out room : List ℕ) → Bytes p → unpack_answer l n p (length out) ≡ done
      → packed_length (wire_count (Record n)) ≤ length room
      → (pack_answer l n (unpacks l n p out) (length room) ≡ done) × (packs l n (unpacks l n p out) room ≡ p)
  -- "Every accepted assignment packs."
  pub accepted : (l n : ℕ) (d a : List ℕ) (room : ℕ) → IsAccepted l n d a → packed_length (wire_count (Record n)) ≤ room
      → pack_answer l n a room ≡ done
