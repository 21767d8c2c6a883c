-- The answer of `produce` and the bytes that it leaves (document 01, "Refusals in checking order"; document 02,
-- requests 2 and 8).
use Rattle.std.specs.Prelude.{cond, List, ◌++◌, ℕ, ◌*◌, ltb, drop, Err}
use Rattle.assignment.specs.Assignment.{entry_bytes}
use Rattle.circuit.specs.Wires.{wire_count}
use Rattle.circuit.specs.declared.circuits.Circuit.TheVariants.{Record}
use Rattle.encoding.specs.Bits.{bit_of_bytes}
use Rattle.limits.specs.Handed.{handed_answer}
use Rattle.record.specs.Layout.{wire_of}
use Rattle.refusal.specs.Refusals.{left, Outcome, done}
use Rattle.refusal.specs.declared.outcome.Refusal.TheVariants.{BufferTooShort}

-- "the whole assignment for a record", of n bits: "Our producer writes every entry as the number 0 or 1"
unfoldable pub assignment_of : ℕ → (ℕ → ℕ) → List ℕ
assignment_of n r = entry_bytes (wire_count (Record n)) (wire_of n r)

-- the answer for a limit of l blocks, a record of n bits, its bytes and a buffer of `room` bytes: 21, 2, 13, 14, 22, and "4. The buffer to be
-- written is shorter than .. 8 × wires for an assignment"
abbrev pub produce_answer : ℕ → ℕ → List ℕ → ℕ → Outcome
produce_answer l n bytes room = handed_answer l n bytes (cond (ltb room (8 * wire_count (Record n))) (Err BufferTooShort) done)

-- what is left in the buffer: the assignment and the bytes past it, which "keep their value"
abbrev pub produce_left : Outcome → ℕ → List ℕ → List ℕ → List ℕ
produce_left answer n bytes out = left answer (assignment_of n (bit_of_bytes bytes) ++ drop (8 * wire_count (Record n)) out) out
