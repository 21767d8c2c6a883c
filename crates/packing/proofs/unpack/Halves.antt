-- Entries written in two halves, a word of each in turn. A word of the first half goes to places before all of the second, so it might
-- as well have been written before that: what is written is always the first words of the one half and then those of the other.
use mathlib.Core.List.{List}
use mathlib.Core.Path.{◌≡◌, ◌∙◌, ap, refl, subst}
use Prim.Native.Nat.{ℕ, ◌+◌, ◌*◌, ◌<◌}
use native.Mathlib.Omega.{arith}
use lib.ListN.{length}
use Rattle.assignment.proofs.Writes.{length-wrote, wrote_apart, wrote_none, wrote_on}
use Rattle.assignment.specs.Wrote.{Wrote}

-- the first j words of each half of 2 h words with the values s
pub record Halves (s : ℕ → ℕ) (h j : ℕ) (before after : List ℕ) : Type 0 where
  pub between : List ℕ
  pub first : Wrote 0 (32 * j) s before between
  pub second : Wrote (32 * h) (32 * j) (λ k. s (32 * h + k)) between after

pub no_word : (s : ℕ → ℕ) (h : ℕ) (l : List ℕ) → Halves s h 0 l l
no_word s h l = record { between = l; first = wrote_none 0 s l; second = wrote_none (32 * h) (λ k. s (32 * h + k)) l }

pub length_halves : {s : ℕ → ℕ} {h j : ℕ} {before after : List ℕ} → Halves s h j before after → length after ≡ length before
length_halves halves = length-wrote halves.second ∙ length-wrote halves.first

-- one word more of each
pub one-word_each : {s t u : ℕ → ℕ} {h j : ℕ} {l l₁ l₂ l₃ : List ℕ} → j < h → Halves s h j l l₁
    → ((k : ℕ) → k < 32 → t k ≡ s (32 * j + k)) → Wrote (32 * j) 32 t l₁ l₂
    → ((k : ℕ) → k < 32 → u k ≡ s (32 * (h + j) + k)) → Wrote (32 * (h + j)) 32 u l₂ l₃ → Halves s h (j + 1) l l₃
one-word_each {s} {t} {u} {h} {j} {l} {l₁} {l₂} {l₃} below halves same-t put-t same-u put-u =
    let moved = wrote_apart (omega arith) halves.second put-t in
    let count : 32 * j + 32 ≡ 32 * (j + 1) = omega arith in
    record {
      between = moved.0;
      first =
          subst (λ n. Wrote 0 n s l moved.0) count (wrote_on (32 * j) (omega arith) same-t halves.first moved.1);
      second =
          subst (λ n. Wrote (32 * h) n (λ k. s (32 * h + k)) moved.0 l₃) count
          (wrote_on (32 * (h + j)) (omega arith)
          (λ k less.
          let place : 32 * (h + j) + k ≡ 32 * h + (32 * j + k) = omega arith in
          same-u k less ∙ ap s place)
          moved.2 put-u);
    }

-- all words
pub both_halves : {s : ℕ → ℕ} {h : ℕ} {l l' : List ℕ} → Halves s h h l l' → Wrote 0 (64 * h) s l l'
both_halves {s} {h} {l} {l'} halves =
    let count : 32 * h + 32 * h ≡ 64 * h = omega arith in
    subst (λ n. Wrote 0 n s l l') count (wrote_on (32 * h) (omega arith) (λ k less. refl) halves.first halves.second)
