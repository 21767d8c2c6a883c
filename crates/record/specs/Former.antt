-- The answer of `check` as it was with document 01's "coefficients from 1 to p - 1", before document 02's request 7. No operation cites it.
use Rattle.refusal.specs.Refusals.{Outcome}
use Rattle.std.specs.Prelude.{cond, List, ◌≡◌, ℕ, ltb, Err}
use Rattle.circuit.specs.declared.circuits.Circuit.TheVariants.{Record}
use Rattle.limits.specs.Blocks.{most_bits}
use Rattle.limits.specs.Limit.{our_limit}
use Rattle.record.specs.Check.{check_answer}
use Rattle.refusal.specs.declared.outcome.Refusal.TheVariants.{LengthOutOfRange}
use Rattle.acceptance.specs.Former.{former_check}

unfoldable pub former_answer : ℕ → List ℕ → List ℕ → Outcome
former_answer n digest assignment = cond (ltb most_bits n) (Err LengthOutOfRange) (former_check (Record n) digest assignment)

-- "which assignments pass is unaltered": with our limit, which was the only one, the answer is the same function. A passage line's check is this function at the line's length,
-- that of packed wires this function of what they are unpacked to
abbrev pub AnswerUnaltered : Type 0
AnswerUnaltered = check_answer our_limit ≡ former_answer
