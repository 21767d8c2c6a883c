-- The code is the definition, with what the calls ensure put in.
use Rattle.std.proofs.Common.{◌≡◌, ℕ, ◌+◌, ap, ◌∙◌, subst}
use Rattle.assignment.specs.Sum.{IsSum}
use Rattle.assignment.specs.Values.{IsRound}
use Rattle.assignment.specs.declared.sum.Sum.{Sum}
use Rattle.sm3.specs.Sm3.{FF, GG, P0, SS1, SS2, ◌⊕◌, rotated_constant, sum_tt1, sum_tt2, sum_u}
use Rattle.sm3.specs.Words.{rotate_left}
use Rattle.sm3.specs.declared.state.State.{State}
use Rattle.assignment.proofs.values.values_of.Goals as goal

-- what the calls ensure, put in
module _ (s : State) (j word w' : ℕ) (u tt1 tt2 : Sum) {t a12 ss1 ff gg p0 : ℕ} where
  round_is : t ≡ rotated_constant j → a12 ≡ rotate_left 12 s.a → IsSum u (a12 + s.e + t) → ss1 ≡ rotate_left 7 u.word
      → ff ≡ FF j s.a s.b s.c → gg ≡ GG j s.e s.f s.g → IsSum tt1 (ff + s.d + (ss1 ⊕ a12) + w')
      → IsSum tt2 (gg + s.h + ss1 + word) → p0 ≡ P0 tt2.word
      → IsRound (record { u = u; ss2 = ss1 ⊕ a12; ff = ff; gg = gg; tt1 = tt1; tt2 = tt2; p0 = p0 }) j word w' s
  unfolding SS1 SS2 sum_tt1 sum_tt2 sum_u
  round_is et ea eu es ef eg e1 e2 ep =
      let whole_u : a12 + s.e + t ≡ sum_u j s = cc in
      let same-u = subst (IsSum u) whole_u eu in
      let kept = same-u.word in
      let whole_1 : ff + s.d + (ss1 ⊕ a12) + w' ≡ sum_tt1 j w' s = cc in
      let whole_2 : gg + s.h + ss1 + word ≡ sum_tt2 j word s = cc in
      let same-2 = subst (IsSum tt2) whole_2 e2 in
      let kept_2 : ss1 ⊕ a12 ≡ SS2 j s = cc in
      record {
        u = same-u;
        ss2 = kept_2;
        ff = ef;
        gg = eg;
        tt1 = subst (IsSum tt1) whole_1 e1;
        tt2 = same-2;
        p0 = ep ∙ ap P0 same-2.word;
      }

pub returns : goal.returns
returns c =
    let a = c.args in
    round_is a.s a.j a.word a.primed _ _ _ c.requires c.rotate_left-a12.ensures c.add_3-u.ensures
    c.rotate_left-ss1.ensures c.ff-ff.ensures c.gg-gg.ensures c.add_4-tt1.ensures c.add_4-tt2.ensures c.p0.ensures
