-- The answer of `check` (document 01, "Refusals in checking order"; document 02, requests 6 and 8).
use Rattle.refusal.specs.Refusals.{Outcome}
use Rattle.std.specs.Prelude.{List, ℕ}
use Rattle.circuit.specs.declared.circuits.Circuit.TheVariants.{Record}
use Rattle.limits.specs.Limit.{length_answer}
use Rattle.acceptance.specs.Check.{circuit_check}

-- the check of an assignment for a record of n bits against a digest, with a limit of l blocks: 21, 2 and 22; then 5, 6, 20, 7, 8 and 9, which
-- are those of every circuit
unfoldable pub check_answer : ℕ → ℕ → List ℕ → List ℕ → Outcome
check_answer l n digest assignment = length_answer l n (circuit_check (Record n) digest assignment)
