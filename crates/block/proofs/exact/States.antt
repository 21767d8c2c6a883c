-- Eight words that wires carry, A to H: by their names and by their numbers, and where they stand one after the other.
use mathlib.Core.Path.{◌≡◌, refl}
use Prim.Native.Nat.{ℕ, zero, suc, ◌+◌, ◌*◌, ◌<◌}
use native.Mathlib.Nat.{add-zero}
use native.Mathlib.Omega.{arith}
use lib.Dec.{lit<}
use Rattle.block.specs.BlockWires.{state_wires}
use Rattle.block.specs.Wires.{state_word, StatePosition, eight_from}
use Rattle.forms.proofs.exact.Carries.{Carries}
use Rattle.forms.proofs.exact.Parts.{agree_at, agree_row}
use Rattle.forms.proofs.exact.Runs.{Agree, Judged}
use Rattle.forms.proofs.exact.Words.{reads_standing}
use Rattle.forms.specs.WordWires.{word_wires}
use Rattle.sm3.proofs.Bounds.{Words}
use Rattle.sm3.specs.Sm3.{◌⊕◌, word_of, xor_state}
use Rattle.sm3.specs.declared.state.State.{State}

pub record CarriesState (values : ℕ → ℕ) (s : StatePosition) (S : State) : Type 0 where
  pub a : Carries values s.a S.a
  pub b : Carries values s.b S.b
  pub c : Carries values s.c S.c
  pub d : Carries values s.d S.d
  pub e : Carries values s.e S.e
  pub f : Carries values s.f S.f
  pub g : Carries values s.g S.g
  pub h : Carries values s.h S.h

-- what holds of each of eight numbers
eight : (P : ℕ → Type 0) → P 0 → P 1 → P 2 → P 3 → P 4 → P 5 → P 6 → P 7 → (k : ℕ) → k < 8 → P k
eight P a b c d e f g h zero l = a
eight P a b c d e f g h (suc zero) l = b
eight P a b c d e f g h (suc (suc zero)) l = c
eight P a b c d e f g h (suc (suc (suc zero))) l = d
eight P a b c d e f g h (suc (suc (suc (suc zero)))) l = e
eight P a b c d e f g h (suc (suc (suc (suc (suc zero))))) l = f
eight P a b c d e f g h (suc (suc (suc (suc (suc (suc zero)))))) l = g
eight P a b c d e f g h (suc (suc (suc (suc (suc (suc (suc zero))))))) l = h
eight P a b c d e f g h (suc (suc (suc (suc (suc (suc (suc (suc k)))))))) l = absurd (omega arith)

pub carries_nth : {values : ℕ → ℕ} {s : StatePosition} {S : State} → CarriesState values s S → (k : ℕ) → k < 8
    → Carries values (state_word s k) (word_of S k)
unfolding word_of
carries_nth {values} {s} {S} t =
    eight (λ k. Carries values (state_word s k) (word_of S k)) t.a t.b t.c t.d t.e t.f t.g t.h

pub xor_nth : (S T : State) (k : ℕ) → k < 8 → word_of (xor_state S T) k ≡ word_of S k ⊕ word_of T k
unfolding word_of xor_state
xor_nth S T = eight (λ k. word_of (xor_state S T) k ≡ word_of S k ⊕ word_of T k) refl refl refl refl refl refl refl refl

module _ (a : ℕ → ℕ) (J : Judged a) (w : ℕ) (S : State) (words : Words S) (agree : Agree a w 256 (state_wires S)) where
  nth_agrees : (k : ℕ) → k < 8 → Agree a (w + 32 * k) 32 (word_wires (word_of S k))
  unfolding state_wires
  nth_agrees k l = agree_row a w 8 32 _ agree k l

  pub carries-eight : CarriesState a (eight_from w) S
  unfolding eight_from word_of
  carries-eight =
      let first = agree_at a (w + 0) w 32 _ (add-zero w) (nth_agrees 0 (lit< tt)) in
      record {
        a = record { below = words.a; reads = reads_standing a J w S.a first };
        b = record { below = words.b; reads = reads_standing a J (w + 32) S.b (nth_agrees 1 (lit< tt)) };
        c = record { below = words.c; reads = reads_standing a J (w + 64) S.c (nth_agrees 2 (lit< tt)) };
        d = record { below = words.d; reads = reads_standing a J (w + 96) S.d (nth_agrees 3 (lit< tt)) };
        e = record { below = words.e; reads = reads_standing a J (w + 128) S.e (nth_agrees 4 (lit< tt)) };
        f = record { below = words.f; reads = reads_standing a J (w + 160) S.f (nth_agrees 5 (lit< tt)) };
        g = record { below = words.g; reads = reads_standing a J (w + 192) S.g (nth_agrees 6 (lit< tt)) };
        h = record { below = words.h; reads = reads_standing a J (w + 224) S.h (nth_agrees 7 (lit< tt)) };
      }
