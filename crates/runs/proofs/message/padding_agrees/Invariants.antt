-- Before turn k the padding bits of the block below its bit k stand on their wires.
use mathlib.Core.Path.{◌≡◌}
use Prim.Native.Nat.{ℕ, ◌+◌, ◌<◌, ◌≤◌}
use Rattle.assignment.specs.Assignment.{entry}
use Rattle.sm3.specs.Message as standard
use Rattle.runs.proofs.message.padding_agrees.Given as goal

abbrev pub invariant-loop-k : goal.invariant-loop-k
invariant-loop-k l =
    (l.initial.k ≤ l.k) × (l.k ≤ 512)
    × ((j : ℕ) → l.initial.k ≤ j → j < l.k → entry l.assignment (l.first.0 + j) ≡ standard.message l.message.bits (λ i. 0) (l.at + j))
