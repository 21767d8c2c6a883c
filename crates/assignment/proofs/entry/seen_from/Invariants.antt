-- Before turn i none of the first i entries is above what was seen.
use Rattle.std.proofs.Common.{◌≤◌}
use Rattle.assignment.specs.Bounded.{AtMost}
use Rattle.assignment.proofs.entry.seen_from.Given as goal

abbrev pub invariant-loop-i : goal.invariant-loop-i
invariant-loop-i l = (l.i ≤ l.n) × AtMost l.w.0 l.i l.seen l.assignment
