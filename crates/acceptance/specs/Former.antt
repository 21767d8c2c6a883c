-- The check as it was with document 01's "coefficients from 1 to p - 1", before document 02's request 7: the same refusals, and the lowest
-- row that was not satisfied then. No operation cites it; the theorem below compares with it.
use Rattle.refusal.specs.Refusals.{Outcome}
use Rattle.std.specs.Prelude.{List, ◌≡◌, ℕ}
use Rattle.assignment.specs.Assignment.{entry}
use Rattle.circuit.specs.Circuit.{row_at}
use Rattle.circuit.specs.Places.{row_count}
use Rattle.circuit.specs.declared.circuits.Circuit.{Circuit}
use Rattle.forms.specs.Former.{former_holds}
use Rattle.acceptance.specs.Check.{after_rows, before_rows, circuit_check}
use Rattle.satisfaction.specs.Lowest.{lowest_by}

unfoldable pub former_check : Circuit → List ℕ → List ℕ → Outcome
former_check c digest assignment =
    before_rows c digest assignment (after_rows (lowest_by (λ k. former_holds (entry assignment) (row_at c k)) 0 (row_count c)))

-- "which assignments pass is unaltered": the check of every circuit is the same function, its refusals and the rows they name too. All
-- other checks are made of this one
abbrev pub CheckUnaltered : Type 0
CheckUnaltered = circuit_check ≡ former_check
