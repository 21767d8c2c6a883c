-- Before each turn all entries below wire w are below the limit, so the answer is that of the wires from w on.
use Rattle.std.proofs.Common.{◌≡◌, ◌-◌, ◌≤◌}
use Rattle.assignment.specs.Bounded.{lowest_not_below}
use Rattle.assignment.proofs.bounded.lowest_asked.Given as goal

abbrev pub invariant-loop-w : goal.invariant-loop-w
invariant-loop-w l =
    (l.w ≤ l.end) × (lowest_not_below l.limit l.assignment l.initial.w (l.end - l.initial.w) ≡ lowest_not_below l.limit l.assignment l.w (l.end - l.w))
