-- The answer of `pack` and the bytes that it leaves (document 02, requests 1, 6 and 8).
use Rattle.std.specs.Prelude.{cond, not, List, ◌++◌, ℕ, ◌*◌, eqb, ltb, drop, length, Err}
use Rattle.assignment.specs.Assignment.{entry}
use Rattle.assignment.specs.BelowPrime.{below_prime_answer, limit_answer}
use Rattle.circuit.specs.Wires.{wire_count}
use Rattle.circuit.specs.declared.circuits.Circuit.TheVariants.{Record}
use Rattle.encoding.specs.Packed.{packed_bytes, packed_length}
use Rattle.limits.specs.Limit.{length_answer}
use Rattle.refusal.specs.Refusals.{left, Outcome, done}
use Rattle.refusal.specs.declared.outcome.Refusal.TheVariants.{BufferTooShort, EntryNotBit, WrongLength}

-- "10, in packing only, an entry reads neither 0 nor 1 (lowest wire returned)": of the first n entries
abbrev pub bits_answer : ℕ → List ℕ → Outcome
bits_answer n assignment = limit_answer EntryNotBit 2 n assignment done

-- what is asked of an assignment of n wires and of a buffer of `room` bytes
abbrev pub pack_asked : ℕ → List ℕ → ℕ → Outcome
pack_asked n assignment room =
    -- "From here refusal 4 also covers any other written buffer shorter than its result."
    cond (ltb room (packed_length n)) (Err BufferTooShort)
    -- "6. An assignment of 8-byte entries handed over to be read is not exactly 8 × wires bytes."
    (cond (not (eqb (length assignment) (8 * n))) (Err WrongLength)
    -- request 6: "20, an entry of p or more (lowest wire returned), directly after 6 and so before 7 and 10"
    (below_prime_answer n assignment
    (bits_answer n assignment)))

-- for a limit of l blocks, records of n bits, an assignment and a buffer of `room` bytes: 21, 2 and 22; then 4, 6, 20 and 10
unfoldable pub pack_answer : ℕ → ℕ → List ℕ → ℕ → Outcome
pack_answer l n assignment room = length_answer l n (pack_asked (wire_count (Record n)) assignment room)

-- what is left in the buffer: the packed bytes and the bytes past them, which "keep their value"
abbrev pub pack_left : Outcome → ℕ → List ℕ → List ℕ → List ℕ
pack_left r n assignment out =
    left r (packed_bytes (wire_count (Record n)) (entry assignment) ++ drop (packed_length (wire_count (Record n))) out) out
