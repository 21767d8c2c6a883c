-- One word more of the expansion, and one round more, as the producer writes them and the check holds them against entries. Wj
-- and q read only words before Wj, so in an array that has those they are the values of the whole expansion.
use Rattle.std.proofs.Common.{◌≡◌, ℕ, ◌+◌, ◌<◌, ◌≤◌, List, get_or, take, sym, ap, ◌∙◌, arith}
use Rattle.block.specs.BlockWires.{expansion_wires}
use Rattle.encoding.specs.Sequence.{beside}
use Rattle.forms.specs.WordWires.{word_wires}
use Rattle.sm3.proofs.expansion.FirstWords.{W-expanded, get_or-expansion, mixed-take, take-expansion}
use Rattle.sm3.proofs.rounds.FirstRounds.{rounds-next}
use Rattle.sm3.specs.Sm3.{P1, expanded, expansion, mixed, w_prime, round_of, rounds}
use Rattle.sm3.specs.declared.state.State.{State}

-- q, P1(q) and Wj are those of the whole expansion
pub expanded-wires : (bits : ℕ → ℕ) (x : List ℕ) (j : ℕ) {q p r : ℕ} → 16 ≤ j → j < 68 → take j x ≡ expansion bits j
    → q ≡ mixed x j → p ≡ P1 (mixed x j) → r ≡ expanded x j
    → beside 32 (word_wires q) (beside 32 (word_wires p) (word_wires r)) ≡ expansion_wires (expansion bits 68) j
unfolding expansion_wires
expanded-wires bits x j {q} {p} {r} h l e eq ep er =
    let whole : take j x ≡ take j (expansion bits 68) = e ∙ sym (take-expansion bits j 68 (omega arith)) in
    let same : mixed x j ≡ mixed (expansion bits 68) j =
    sym (mixed-take x j h) ∙ ap (λ w. mixed w j) whole ∙ mixed-take (expansion bits 68) j h in
    let word : r ≡ get_or (expansion bits 68) j 0 = er ∙ sym (W-expanded bits x j h e) ∙ sym (get_or-expansion bits 68 j l) in
    cc

-- A to H after one round more
pub one-round : (x : List ℕ) (v : State) (j : ℕ) {s s' : State} → s' ≡ round_of j (get_or x j 0) (w_prime x j) s → s ≡ rounds x v j
    → s' ≡ rounds x v (j + 1)
one-round x v j e d = e ∙ ap (round_of j (get_or x j 0) (w_prime x j)) d ∙ sym (rounds-next x v j)
