-- Before each turn all entries of the runs before are below the limit, so the answer is that of the wires from there on; a run that has an
-- entry that is not decides it.
use Rattle.std.proofs.Common.{◌≡◌, ◌-◌, ◌*◌, ◌≤◌}
use Rattle.assignment.specs.Bounded.{lowest_not_below}
use Rattle.assignment.proofs.bounded.lowest_not_below.Given as goal

abbrev pub invariant-loop-j : goal.invariant-loop-j
invariant-loop-j l =
    (l.j ≤ l.runs) × (lowest_not_below l.limit l.assignment 0 l.n ≡ lowest_not_below l.limit l.assignment (256 * l.j) (l.n - 256 * l.j))
