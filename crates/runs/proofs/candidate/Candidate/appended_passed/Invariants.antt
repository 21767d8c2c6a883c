-- Before turn k the first k appended rows hold; a turn adds row k, whose form is judged.
use Prim.Native.Nat.{ℕ, ◌+◌, ◌*◌, ◌≤◌}
use Rattle.block.specs.Steps.{block_rows}
use Rattle.circuit.specs.Circuits.{block_count}
use Rattle.circuit.specs.Places.{state_rows}
use Rattle.circuit.specs.declared.circuits.Circuit.{Circuit}
use Rattle.runs.specs.RowsHold.{RowsHold}
use Rattle.runs.proofs.candidate.Candidate.appended_passed.Given as goal

-- the first appended row
abbrev pub first : Circuit → ℕ
first C = state_rows + block_rows * block_count C + state_rows

abbrev pub invariant-loop-k : goal.invariant-loop-k
invariant-loop-k l = (l.k ≤ l.rows) × RowsHold l.self.circuit (first l.self.circuit) l.k l.self.assignment.now
