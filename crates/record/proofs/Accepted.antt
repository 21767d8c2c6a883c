-- When the check of a record's assignment accepts: where the limit allows the length and the circuit's check accepts.
use Rattle.refusal.specs.Refusals.{done}
use Rattle.std.specs.Prelude.{Err}
use mathlib.Core.List.{List}
use mathlib.Core.Logic.Iff
use mathlib.Core.Logic.{◌↔◌}
use mathlib.Core.Path.{◌≡◌, refl}
use Prim.Native.Nat.{ℕ}
use Rattle.assignment.specs.Assignment.{entry}
use Rattle.circuit.specs.Circuit.{row_at}
use Rattle.circuit.specs.Places.{row_count}
use Rattle.circuit.specs.declared.circuits.Circuit.TheVariants.{Record}
use Rattle.limits.proofs.Limited.{other_number}
use Rattle.limits.proofs.limit.Tests.{past-length}
use Rattle.limits.specs.Limit.{Allows}
use Rattle.record.specs.Check.{check_answer}
use Rattle.refusal.specs.declared.numbers.RowNumber.{RowNumber}
use Rattle.refusal.specs.declared.outcome.Refusal.TheVariants.{Unsatisfied}
use Rattle.acceptance.proofs.Acceptance as circuit
use Rattle.acceptance.proofs.Acceptance.{Accepts}
use Rattle.satisfaction.specs.Lowest.{LowestFailing}

module _ (l n : ℕ) (d a : List ℕ) where
  pub accepted_iff : (check_answer l n d a ≡ done) ↔ (Allows l n × Accepts (Record n) d a)
  unfolding check_answer
  accepted_iff = past-length l n _ done (other_number 0 refl refl refl) (circuit.accepted_iff (Record n) d a)

  -- the row that is named fails, and every row below it holds
  pub unsatisfied_lowest : (k : RowNumber) → check_answer l n d a ≡ Err (Unsatisfied k)
      → Allows l n × LowestFailing (entry a) (row_at (Record n)) 0 (row_count (Record n)) k.0
  unfolding check_answer
  unsatisfied_lowest k e =
      let both = (past-length l n _ (Err (Unsatisfied k)) (other_number 9 refl refl refl) Iff.rfl).0 e in
      (both.0, circuit.unsatisfied_lowest (Record n) d a k both.1)
