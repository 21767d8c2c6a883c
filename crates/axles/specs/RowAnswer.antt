-- The answer of `row` and the bytes that it leaves (document 02, request 5).
use Rattle.forms.specs.declared.terms.Counts.{Counts}
use Rattle.refusal.specs.declared.outcome.Refusal.{Refusal}
use Rattle.std.specs.Prelude.{cond, not, List, ℕ, Err, Result}
use Rattle.circuit.specs.Axles.{bounds_in_range}
use Rattle.circuit.specs.GivenRow.{given_left, given_row}
use Rattle.circuit.specs.declared.circuits.Circuit.TheVariants.{Axles}
use Rattle.refusal.specs.declared.outcome.Refusal.TheVariants.{BoundsOutOfRange}

-- for row k and a buffer of `room` bytes: "18, a bound outside 2 to 99 or the lower above the upper"; then 3 and 4, which are those of every
-- circuit
unfoldable pub axles_row_answer : ℕ → ℕ → ℕ → ℕ → Result Counts Refusal
axles_row_answer lower upper k room =
    cond (not (bounds_in_range lower upper)) (Err BoundsOutOfRange) (given_row (Axles lower upper) k room)

-- what is left in the buffer
abbrev pub axles_row_left : Result Counts Refusal → ℕ → ℕ → ℕ → List ℕ → List ℕ
axles_row_left r lower upper k out = given_left r (Axles lower upper) k out
