-- The answer of `check` (document 02, requests 5 and 6).
use Rattle.refusal.specs.Refusals.{Outcome}
use Rattle.std.specs.Prelude.{cond, not, List, ℕ, Err}
use Rattle.circuit.specs.Axles.{bounds_in_range}
use Rattle.circuit.specs.declared.circuits.Circuit.TheVariants.{Axles}
use Rattle.refusal.specs.declared.outcome.Refusal.TheVariants.{BoundsOutOfRange}
use Rattle.acceptance.specs.Check.{circuit_check}

-- the check of an assignment between two bounds against a digest: 18, then 5, 6, 20, 7, 8 and 9, which are those of every circuit
unfoldable pub axles_check_answer : ℕ → ℕ → List ℕ → List ℕ → Outcome
axles_check_answer lower upper digest assignment =
    cond (not (bounds_in_range lower upper)) (Err BoundsOutOfRange) (circuit_check (Axles lower upper) digest assignment)
