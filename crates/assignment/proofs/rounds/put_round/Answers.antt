-- The values that are written are the round's, so their wires are, and A to H after it are made of them.
use Rattle.std.proofs.Common.{◌≡◌, ℕ, ◌+◌, List, get_or, sym, refl, ap, ◌∙◌}
use Rattle.assignment.proofs.Writes.{wrote_as, wrote_then}
use Rattle.block.specs.BlockWires.{round_wires}
use Rattle.encoding.proofs.Regroup.{beside_assoc}
use Rattle.encoding.specs.Sequence.{beside}
use Rattle.forms.specs.WordWires.{sum_wires, word_wires}
use Rattle.sm3.specs.Sm3.{FF, GG, P0, SS2, truncated, w_prime, sum_tt1, sum_tt2, sum_u}
use Rattle.sm3.specs.declared.state.State.{State}
use Rattle.assignment.proofs.rounds.put_round.Goals as goal

-- four sequences and then the others, from the right on
regrouped : (u s f g h : ℕ → ℕ)
    → beside 130 (beside 34 u (beside 32 s (beside 32 f g))) h ≡ beside 34 u (beside 32 s (beside 32 f (beside 32 g h)))
regrouped u s f g h =
    sym (beside_assoc 34 96 u (beside 32 s (beside 32 f g)) h)
    ∙ ap (beside 34 u) (sym (beside_assoc 32 64 s (beside 32 f g) h) ∙ ap (beside 32 s) (sym (beside_assoc 32 32 f g h)))

-- the wires of values that are the round's
round-wires : (x : List ℕ) (j : ℕ) (s : State) {ss2 ff gg p0 : ℕ} → ss2 ≡ SS2 j s → ff ≡ FF j s.a s.b s.c
    → gg ≡ GG j s.e s.f s.g → p0 ≡ P0 (truncated (sum_tt2 j (get_or x j 0) s))
    → beside 130 (beside 34 (sum_wires (sum_u j s)) (beside 32 (word_wires ss2) (beside 32 (word_wires ff) (word_wires gg))))
    (beside 34 (sum_wires (sum_tt1 j (w_prime x j) s)) (beside 34 (sum_wires (sum_tt2 j (get_or x j 0) s)) (word_wires p0)))
    ≡ round_wires x j s
unfolding round_wires
round-wires x j s ss2 ff gg p0 = regrouped _ _ _ _ _ ∙ cc

pub returns : goal.returns
returns c =
    let a = c.args in
    let r = c.round_values-r.ensures in record {
      value = c.after_round.ensures _ _ _ r;
      wrote = wrote_as (round-wires a.x.now a.j a.s r.ss2 r.ff r.gg r.p0)
          (wrote_then (a.w.0 + 130) refl (c.put_summands.ensures _ r.u) (c.put_sums.ensures _ _ r.tt1 r.tt2));
    }
