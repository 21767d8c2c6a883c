-- The answer of `check` as it was with document 01's "coefficients from 1 to p - 1", before document 02's request 7. No operation cites it.
use Rattle.refusal.specs.Refusals.{Outcome}
use Rattle.std.specs.Prelude.{cond, not, List, ◌≡◌, ℕ, Err}
use Rattle.axles.specs.Check.{axles_check_answer}
use Rattle.circuit.specs.Axles.{bounds_in_range}
use Rattle.circuit.specs.declared.circuits.Circuit.TheVariants.{Axles}
use Rattle.refusal.specs.declared.outcome.Refusal.TheVariants.{BoundsOutOfRange}
use Rattle.acceptance.specs.Former.{former_check}

unfoldable pub former_axles_answer : ℕ → ℕ → List ℕ → List ℕ → Outcome
former_axles_answer lower upper digest assignment =
    cond (not (bounds_in_range lower upper)) (Err BoundsOutOfRange) (former_check (Axles lower upper) digest assignment)

-- "which assignments pass is unaltered": the answer is the same function
abbrev pub AxlesAnswerUnaltered : Type 0
AxlesAnswerUnaltered = axles_check_answer ≡ former_axles_answer
