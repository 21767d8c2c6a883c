-- Before turn j the wires of the first j words are written; a turn writes the next row of the grid.
use Rattle.std.proofs.Common.{ℕ, ◌*◌, ◌≤◌, List, get_or, length}
use Rattle.assignment.specs.Wrote.{Wrote}
use Rattle.encoding.specs.Sequence.{grid}
use Rattle.forms.specs.WordWires.{word_wires}
use Rattle.assignment.proofs.wires.put_words.Given as goal

-- the wires of the words
abbrev pub wires_of : List ℕ → ℕ → ℕ
wires_of words = grid 32 (λ j. word_wires (get_or words j 0))

abbrev pub invariant-loop-j : goal.invariant-loop-j
invariant-loop-j l = (l.j ≤ length l.words) × Wrote l.w.0 (32 * l.j) (wires_of l.words) l.initial.out l.out
