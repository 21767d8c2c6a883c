-- The code is the definition of Wj, with what the calls ensure put in.
use Rattle.std.proofs.Common.{◌≡◌, ℕ, ◌-◌, List, get_or, ap, ◌∙◌, ap₂}
use Rattle.sm3.specs.Sm3.{P1, ◌⊕◌, expanded, mixed}
use Rattle.sm3.specs.Words.{rotate_left}
use Rattle.assignment.proofs.values.expansion_values.Goals as goal

expanded_is : (x : List ℕ) (j : ℕ) {p t : ℕ} → p ≡ P1 (mixed x j) → t ≡ rotate_left 7 (get_or x (j - 13) 0)
    → p ⊕ t ⊕ get_or x (j - 6) 0 ≡ expanded x j
unfolding expanded
expanded_is x j e d = ap₂ (λ p t. p ⊕ t ⊕ get_or x (j - 6) 0) e d

pub returns : goal.returns
returns c =
    let a = c.args in
    let q = c.mixed_word-q.ensures in
    let p = c.p1-p.ensures ∙ ap P1 q in
    record { q = q; p1 = p; word = expanded_is a.x.now a.j p c.rotate_left.ensures }
