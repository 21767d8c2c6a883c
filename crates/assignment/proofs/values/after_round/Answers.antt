-- A is the word of TT1 and E is P0(TT2); the others are moved on.
use Rattle.std.proofs.Common.{◌≡◌, ℕ}
use Rattle.sm3.specs.Sm3.{P0, truncated, round_of, sum_tt1, sum_tt2}
use Rattle.sm3.specs.Words.{rotate_left}
use Rattle.sm3.specs.declared.state.State.{State}
use Rattle.assignment.proofs.values.after_round.Goals as goal

-- A to H after the round
next_is : (j word w' : ℕ) (s : State) {a c e g : ℕ} → a ≡ truncated (sum_tt1 j w' s) → c ≡ rotate_left 9 s.b
    → e ≡ P0 (truncated (sum_tt2 j word s)) → g ≡ rotate_left 19 s.f
    → ◌≡◌ {A = State} (record { a = a; b = s.a; c = c; d = s.c; e = e; f = s.e; g = g; h = s.g }) (round_of j word w' s)
unfolding round_of
next_is j word w' s a c e g = cc

pub returns : goal.returns
returns c =
    λ j word w' h.
    next_is j word w' c.args.s h.tt1.word c.rotate_left.ensures h.p0
    c.rotate_left-2.ensures
