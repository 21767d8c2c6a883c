-- The answer of `unpack` and the bytes that it leaves (document 02, requests 1 and 8).
use Rattle.std.specs.Prelude.{cond, not, List, ◌++◌, ℕ, ◌*◌, eqb, ltb, drop, length, Err}
use Rattle.circuit.specs.Wires.{wire_count}
use Rattle.circuit.specs.declared.circuits.Circuit.TheVariants.{Record}
use Rattle.encoding.specs.Packed.{packed_length, spare_bits}
use Rattle.limits.specs.Limit.{length_answer}
use Rattle.packing.specs.Packed.{unpacked_bytes}
use Rattle.refusal.specs.Refusals.{left, Outcome, done}
use Rattle.refusal.specs.declared.outcome.Refusal.TheVariants.{BufferTooShort, SpareBit, WrongPackedLength}

-- what is asked of the packed bytes of n wires, and then the answer `next`
unfoldable pub packed_answer : ℕ → List ℕ → Outcome → Outcome
packed_answer n packed next =
    -- "11, the packed length is not the wires over 8 rounded up, after 10"
    cond (not (eqb (length packed) (packed_length n))) (Err WrongPackedLength)
    -- "12, a spare bit is set, after 11"
    (cond (not (eqb (spare_bits n packed) 0)) (Err SpareBit) next)

-- what is asked of them and of a buffer of `room` bytes: "4. The buffer to be written is shorter than .. 8 × wires for an assignment."
abbrev pub unpack_asked : ℕ → List ℕ → ℕ → Outcome
unpack_asked n packed room = cond (ltb room (8 * n)) (Err BufferTooShort) (packed_answer n packed done)

-- for a limit of l blocks, records of n bits, packed bytes and a buffer of `room` bytes: 21, 2 and 22; then 4, 11 and 12
unfoldable pub unpack_answer : ℕ → ℕ → List ℕ → ℕ → Outcome
unpack_answer l n packed room = length_answer l n (unpack_asked (wire_count (Record n)) packed room)

-- what is left in the buffer: the entries and the bytes past them, which "keep their value"
abbrev pub unpack_left : Outcome → ℕ → List ℕ → List ℕ → List ℕ
unpack_left r n packed out =
    left r (unpacked_bytes (wire_count (Record n)) packed ++ drop (8 * wire_count (Record n)) out) out
