-- The answer of `produce` and the bytes that it leaves (document 02, requests 5 and 8).
use Rattle.std.specs.Prelude.{cond, not, List, ◌++◌, ℕ, ◌*◌, ltb, drop, Err}
use Rattle.assignment.specs.Assignment.{entry_bytes}
use Rattle.axles.specs.Band.{in_band}
use Rattle.axles.specs.Layout.{axle_wire_of}
use Rattle.circuit.specs.Axles.{axle_bits, bounds_in_range}
use Rattle.circuit.specs.Wires.{wire_count}
use Rattle.circuit.specs.declared.circuits.Circuit.TheVariants.{Axles}
use Rattle.encoding.specs.Bits.{bit_of_bytes}
use Rattle.limits.specs.Handed.{handed_answer}
use Rattle.limits.specs.Limit.{partner_limit}
use Rattle.refusal.specs.Refusals.{left, Outcome, done}
use Rattle.refusal.specs.declared.outcome.Refusal.TheVariants.{BoundsOutOfRange, BufferTooShort, NotInBand}

-- the whole assignment of a record of 504 bits between two bounds
unfoldable pub axle_assignment_of : ℕ → ℕ → (ℕ → ℕ) → List ℕ
axle_assignment_of lower upper r = entry_bytes (wire_count (Axles lower upper)) (axle_wire_of lower upper r)

-- for a record's bytes and a buffer of `room` bytes: "the passage and axle calls two" blocks, which the record's 504 bits need, so that of 21, 2,
-- 13, 14 and 22 it can be 13 alone: "A record of other than 63 bytes is 13 here."
unfoldable pub axles_produce_answer : ℕ → ℕ → List ℕ → ℕ → Outcome
axles_produce_answer lower upper bytes room =
    handed_answer partner_limit axle_bits bytes
    -- "18, a bound outside 2 to 99 or the lower above the upper"
    (cond (not (bounds_in_range lower upper)) (Err BoundsOutOfRange)
    -- "19, to the producer, a record that does not meet this, after 18"
    (cond (not (in_band lower upper bytes)) (Err NotInBand)
    -- "4. The buffer to be written is shorter than .. 8 × wires for an assignment"
    (cond (ltb room (8 * wire_count (Axles lower upper))) (Err BufferTooShort) done)))

-- what is left in the buffer: the assignment and the bytes past it, which "keep their value"
abbrev pub axles_produce_left : Outcome → ℕ → ℕ → List ℕ → List ℕ → List ℕ
axles_produce_left answer lower upper bytes out =
    left answer (axle_assignment_of lower upper (bit_of_bytes bytes) ++ drop (8 * wire_count (Axles lower upper)) out) out
