-- What the calls ensure makes the definition's round. The word that was written is read back, and
-- Wj below it is as it was.
use Rattle.std.proofs.Common.{◌≡◌, ℕ, ◌+◌, ◌∙◌, ap₂, arith, get_or-set_other, get_or-set_same}
use Rattle.sm3.specs.Sm3.{◌⊕◌, FF, GG, P0, SS1, SS2, truncated, rotated_constant, round_of, sum_tt1, sum_tt2, sum_u}
use Rattle.sm3.specs.Words.{rotate_left}
use Rattle.sm3.specs.declared.state.State.{State}
use Rattle.sm3.proofs.rounds.FirstRounds.{reached_next}
use Rattle.sm3.proofs.round.round.Goals as goal

-- the words that a round makes, in the order of the code
round_made : (s : State) (j word w' t : ℕ) {a12 u ss1 gg tt2 ff tt1 c e g : ℕ}
    → t ≡ rotated_constant j
    → a12 ≡ rotate_left 12 s.a
    → u ≡ truncated (a12 + s.e + t)
    → ss1 ≡ rotate_left 7 u
    → gg ≡ GG j s.e s.f s.g
    → tt2 ≡ truncated (gg + s.h + ss1 + word)
    → ff ≡ FF j s.a s.b s.c
    → tt1 ≡ truncated (ff + s.d + (ss1 ⊕ a12) + w')
    → c ≡ rotate_left 9 s.b
    → e ≡ P0 tt2
    → g ≡ rotate_left 19 s.f
    → record { a = tt1; b = s.a; c = c; d = s.c; e = e; f = s.e; g = g; h = s.g } ≡ round_of j word w' s
unfolding SS1 SS2 round_of sum_tt1 sum_tt2 sum_u
round_made s j word w' t h₀ h₁ h₂ h₃ h₄ h₅ h₆ h₇ h₈ h₉ h₁₀ = cc

pub returns : goal.returns
returns c =
    let a = c.args in
    let r = c.requires.1 in
    let w = a.w.now in
    let x = c.next_word.result in
    let a12 = c.rotate_left-a12.result in
    let ss1 = c.rotate_left-ss1.result in
    let ff = c.ff.result in
    let here = get_or-set_other w (a.j + 4) a.j x 0 (omega arith) in
    let there = get_or-set_same w (a.j + 4) x 0 (omega arith) in
    reached_next a.bytes.now a.v w a.s _ a.j x c.requires.0 c.next_word.ensures
    (round_made a.s a.j _ _ _
    c.rotated_constant.ensures
    c.rotate_left-a12.ensures
    c.sum_of_3.ensures
    c.rotate_left-ss1.ensures
    c.gg.ensures
    c.sum_of_4-tt2.ensures
    c.ff.ensures
    (c.sum_of_4-tt1.ensures ∙ ap₂ (λ p q. truncated (ff + a.s.d + (ss1 ⊕ a12) + (p ⊕ q))) here there)
    c.rotate_left.ensures
    c.p0.ensures
    c.rotate_left-2.ensures)
    r
