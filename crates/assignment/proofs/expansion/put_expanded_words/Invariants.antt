-- Before turn j the array has the words before W(16+j), and their wires are written. Wj and q read only words before it, so
-- they are those of the whole expansion.
use Rattle.std.proofs.Common.{◌≡◌, ℕ, ◌+◌, ◌*◌, ◌≤◌, length, take}
use Rattle.assignment.specs.Wrote.{Wrote}
use Rattle.block.specs.BlockWires.{expansion_wires}
use Rattle.block.specs.Wires.{expansion_width}
use Rattle.encoding.specs.Sequence.{grid}
use Rattle.sm3.specs.Sm3.{expansion}
use Rattle.assignment.proofs.expansion.put_expanded_words.Given as goal

-- the wires of the expansion
abbrev pub words : (ℕ → ℕ) → ℕ → ℕ
words bits = grid expansion_width (λ j. expansion_wires (expansion bits 68) (16 + j))

abbrev pub invariant-loop-j : goal.invariant-loop-j
invariant-loop-j l =
    (l.j ≤ 52) × (length l.x ≡ 68) × (length l.out ≡ length l.initial.out)
    × ((bits : ℕ → ℕ) → take 16 l.initial.x ≡ expansion bits 16 → (take (16 + l.j) l.x ≡ expansion bits (16 + l.j)) × Wrote l.w.0 (expansion_width * l.j) (words bits) l.initial.out l.out)
