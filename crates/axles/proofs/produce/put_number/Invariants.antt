-- Before turn i the first i bits are written; a turn writes the next.
use Prim.Native.Nat.{◌≤◌}
use Rattle.assignment.specs.Wrote.{Wrote}
use Rattle.forms.specs.WordWires.{number_wires}
use Rattle.axles.proofs.produce.put_number.Given as goal

abbrev pub invariant-loop-i : goal.invariant-loop-i
invariant-loop-i l = (l.i ≤ l.width) × Wrote l.w.0 l.i (number_wires l.width l.x) l.initial.out l.out
