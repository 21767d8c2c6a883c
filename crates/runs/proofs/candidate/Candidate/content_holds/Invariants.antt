-- Where the content is free, its rows ask for bits; else the loop judges them one by one, by their forms.
use Prim.Native.Nat.{ℕ, ◌<◌, ◌≤◌}
use Rattle.assignment.specs.Assignment.{entry}
use Rattle.circuit.specs.Circuits.{content_form}
use Rattle.forms.specs.Rows.{Satisfied, row_of}
use Rattle.runs.proofs.candidate.Candidate.content_holds.Given as goal

abbrev pub invariant-loop-b : goal.invariant-loop-b
invariant-loop-b l =
    (l.b ≤ l.b-end) × ((k : ℕ) → k < l.b → Satisfied (entry l.self.assignment.now) (row_of (content_form l.self.circuit l.i k)))
