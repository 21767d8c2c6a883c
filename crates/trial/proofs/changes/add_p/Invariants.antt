-- Writing an entry keeps the length, so each wire up to the last still has its 8 bytes.
use mathlib.Core.Path.{◌≡◌}
use Prim.Native.Nat.{◌*◌, ◌≤◌}
use lib.ListN.{length}
use Rattle.trial.proofs.changes.add_p.Given as goal

abbrev pub invariant-loop-w : goal.invariant-loop-w
invariant-loop-w l = (l.w ≤ l.n) × (8 * l.n ≤ length l.assignment) × (length l.assignment ≡ length l.initial.assignment)
