-- Before turn j the wires of the first j w_primes are written; a turn writes the next row of the grid.
use Rattle.std.proofs.Common.{ℕ, ◌*◌, ◌≤◌, List}
use Rattle.assignment.specs.Wrote.{Wrote}
use Rattle.encoding.specs.Sequence.{grid}
use Rattle.forms.specs.WordWires.{word_wires}
use Rattle.sm3.specs.Sm3.{w_prime}
use Rattle.assignment.proofs.expansion.put_w_primes.Given as goal

-- the wires of the w_primes
abbrev pub w_primes : List ℕ → ℕ → ℕ
w_primes x = grid 32 (λ j. word_wires (w_prime x j))

abbrev pub invariant-loop-j : goal.invariant-loop-j
invariant-loop-j l = (l.j ≤ 64) × Wrote l.w.0 (32 * l.j) (w_primes l.x) l.initial.out l.out
