-- What the rows that a check passes by are: satisfied. A device of the contracts of the check's parts; what `check` answers is said without it.
use Rattle.std.specs.Prelude.{List, ℕ, ◌+◌, ◌<◌, ◌≤◌}
use Rattle.assignment.specs.Assignment.{entry}
use Rattle.circuit.specs.Circuit.{row_at}
use Rattle.circuit.specs.declared.circuits.Circuit.{Circuit}
use Rattle.forms.specs.Rows.{Satisfied}

-- the n rows of a circuit from row k on are satisfied
pub record RowsHold (c : Circuit) (k n : ℕ) (bytes : List ℕ) : Type 0 where
  pub each : (j : ℕ) → k ≤ j → j < k + n → Satisfied (entry bytes) (row_at c j)
