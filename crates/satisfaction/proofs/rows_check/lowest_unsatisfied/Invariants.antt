-- Before each turn all rows below row k hold, so the lowest failing row is that of the rows from k on. Where rows from k on hold for sure,
-- or row k by its form, a turn goes past them; else it sums up the terms of row k, and the sums of all of them tell whether it holds.
use mathlib.Core.Path.{◌≡◌}
use Prim.Native.Nat.{◌-◌, ◌≤◌}
use Rattle.assignment.specs.Assignment.{entry}
use Rattle.circuit.specs.Circuit.{form_at}
use Rattle.circuit.specs.Places.{row_count}
use Rattle.forms.specs.Terms.{unsorted}
use Rattle.satisfaction.proofs.rows_check.RowByRow.{Turn}
use Rattle.satisfaction.proofs.sums.TermByTerm.{sums_to}
use Rattle.satisfaction.proofs.rows_check.lowest_unsatisfied.Given as goal

abbrev pub invariant-loop-t : goal.invariant-loop-t
invariant-loop-t l =
    (l.t ≤ l.count) × (l.sums ≡ sums_to (entry l.candidate.assignment.now) (unsorted (form_at l.candidate.circuit l.k)) l.t)

abbrev pub decreases-loop-t : goal.decreases-loop-t
decreases-loop-t l = l.count - l.t

abbrev pub invariant-rows : goal.invariant-rows
invariant-rows l = Turn l.candidate.circuit l.candidate.assignment.now l.k

abbrev pub decreases-rows : goal.decreases-rows
decreases-rows l = row_count l.candidate.circuit - l.k
