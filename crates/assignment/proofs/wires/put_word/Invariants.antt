-- Before turn i the first i bits are written; a turn writes the next.
use Rattle.std.proofs.Common.{◌≤◌}
use Rattle.assignment.specs.Wrote.{Wrote}
use Rattle.forms.specs.WordWires.{word_wires}
use Rattle.assignment.proofs.wires.put_word.Given as goal

abbrev pub invariant-loop-i : goal.invariant-loop-i
invariant-loop-i l = (l.i ≤ 32) × Wrote l.w.0 l.i (word_wires l.x) l.initial.out l.out
