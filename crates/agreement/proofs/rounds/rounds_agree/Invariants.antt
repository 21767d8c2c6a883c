-- Before turn j A to H are those before round j, and the wires of the first j rounds agree.
use Rattle.std.proofs.Common.{◌≡◌, ℕ, ◌+◌, ◌*◌, ◌<◌, ◌≤◌}
use Rattle.block.specs.BlockWires.{round_wires}
use Rattle.block.specs.Wires.{round_width}
use Rattle.agreement.specs.Agrees.{Agrees}
use Rattle.sm3.specs.Sm3.{rounds}
use Rattle.agreement.proofs.rounds.rounds_agree.Given as goal

abbrev pub invariant-loop-j : goal.invariant-loop-j
invariant-loop-j l =
    (l.j ≤ 64) × (l.s ≡ rounds l.x l.initial.s l.j)
    × ((i : ℕ) → i < l.j → Agrees (l.w.0 + round_width * i) round_width (round_wires l.x i (rounds l.x l.initial.s i)) l.assignment)
