-- Before turn k the wires of the first k words agree; by their number they are A to H.
use Rattle.std.proofs.Common.{ℕ, ◌+◌, ◌*◌, ◌<◌, ◌≤◌, get_or}
use Rattle.forms.specs.WordWires.{word_wires}
use Rattle.agreement.specs.Agrees.{Agrees}
use Rattle.agreement.proofs.wires.state_agrees.Given as goal

abbrev pub invariant-loop-k : goal.invariant-loop-k
invariant-loop-k l =
    (l.k ≤ 8) × ((i : ℕ) → i < l.k → Agrees (l.w.0 + 32 * i) 32 (word_wires (get_or l.word-items i 0)) l.assignment)
