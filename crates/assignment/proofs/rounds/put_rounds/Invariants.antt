-- Before turn j the state is what j rounds have made of v, and the wires of these rounds are written.
use Rattle.std.proofs.Common.{◌≡◌, ℕ, ◌*◌, ◌≤◌, List}
use Rattle.assignment.specs.Wrote.{Wrote}
use Rattle.block.specs.BlockWires.{round_wires}
use Rattle.block.specs.Wires.{round_width}
use Rattle.encoding.specs.Sequence.{grid}
use Rattle.sm3.specs.Sm3.{rounds}
use Rattle.sm3.specs.declared.state.State.{State}
use Rattle.assignment.proofs.rounds.put_rounds.Given as goal

-- the wires of all rounds
abbrev pub wires : List ℕ → State → ℕ → ℕ
wires x v = grid round_width (λ j. round_wires x j (rounds x v j))

abbrev pub invariant-loop-j : goal.invariant-loop-j
invariant-loop-j l = (l.j ≤ 64) × (l.s ≡ rounds l.x l.initial.s l.j) × Wrote l.w.0 (round_width * l.j) (wires l.x l.initial.s) l.initial.out l.out
