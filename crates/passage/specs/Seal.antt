-- The answer of `seal` and the bytes that it leaves in its two buffers, and the answer of `check` (document 02, request 3: "It seals a
-- line, giving its digest and its assignment, and checks an assignment of a line's length against a digest by document 01's check").
use Rattle.refusal.specs.Refusals.{Outcome, done}
use Rattle.std.specs.Prelude.{cond, ◌||◌, List, ℕ, ◌*◌, ltb, Err}
use Rattle.circuit.specs.Wires.{wire_count}
use Rattle.circuit.specs.declared.circuits.Circuit.TheVariants.{Record}
use Rattle.limits.specs.Limit.{partner_limit}
use Rattle.passage.specs.Format.{line_length}
use Rattle.passage.specs.Read.{line_answer, next}
use Rattle.record.specs.Check.{check_answer}
use Rattle.record.specs.Produce.{produce_left}
use Rattle.refusal.specs.declared.outcome.Refusal.TheVariants.{BufferTooShort}
use Rattle.sm3.specs.Digest.{digest_left}

-- "a line's length", in bits
abbrev pub line_bits : ℕ
line_bits = 8 * line_length

-- for a line and buffers of so many bytes for its digest and its assignment: 15, 16, 17, and "4. The buffer to be written is shorter
-- than 32 bytes for a digest .. or 8 × wires for an assignment", which is asked of both
unfoldable pub seal_answer : List ℕ → ℕ → ℕ → Outcome
seal_answer s digestRoom assignmentRoom =
    next (line_answer s) Err
    (cond (ltb digestRoom 32 || ltb assignmentRoom (8 * wire_count (Record line_bits))) (Err BufferTooShort) done)

-- what is left in the buffers: the line's digest and assignment where it is sealed, with the bytes past them
abbrev pub digest_of_line : Outcome → List ℕ → List ℕ → List ℕ
digest_of_line r s out = digest_left r line_bits s out

abbrev pub assignment_of_line : Outcome → List ℕ → List ℕ → List ℕ
assignment_of_line r s out = produce_left r line_bits s out

-- document 01's check, for a record of a line's length: "the passage and axle calls two" blocks (document 02, request 8), which a line needs
abbrev pub check_line_answer : List ℕ → List ℕ → Outcome
check_line_answer digest assignment = check_answer partner_limit line_bits digest assignment
