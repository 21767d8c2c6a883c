-- Before turn j the wires of the first j w_primes agree.
use Rattle.std.proofs.Common.{ℕ, ◌+◌, ◌*◌, ◌<◌, ◌≤◌}
use Rattle.forms.specs.WordWires.{word_wires}
use Rattle.agreement.specs.Agrees.{Agrees}
use Rattle.sm3.specs.Sm3.{w_prime}
use Rattle.agreement.proofs.expansion.w_primes_agree.Given as goal

abbrev pub invariant-loop-j : goal.invariant-loop-j
invariant-loop-j l =
    (l.j ≤ 64) × ((i : ℕ) → i < l.j → Agrees (l.w.0 + 32 * i) 32 (word_wires (w_prime l.x i)) l.assignment)
