-- Before turn j the array has the words before W(16+j), and their wires agree; what a turn computes is of the whole expansion.
use Rattle.std.proofs.Common.{◌≡◌, ℕ, ◌+◌, ◌*◌, ◌<◌, ◌≤◌, length, take}
use Rattle.block.specs.BlockWires.{expansion_wires}
use Rattle.block.specs.Wires.{expansion_width}
use Rattle.agreement.specs.Agrees.{Agrees}
use Rattle.sm3.specs.Sm3.{expansion}
use Rattle.agreement.proofs.expansion.expanded_words_agree.Given as goal

abbrev pub invariant-loop-j : goal.invariant-loop-j
invariant-loop-j l =
    (l.j ≤ 52) × (length l.x ≡ 68)
    × ((bits : ℕ → ℕ) → take 16 l.initial.x ≡ expansion bits 16 → (take (16 + l.j) l.x ≡ expansion bits (16 + l.j)) × ((i : ℕ) → i < l.j → Agrees (l.w.0 + expansion_width * i) expansion_width (expansion_wires (expansion bits 68) (16 + i)) l.assignment))
