-- Places of a line that are asked one after the other: the lowest at which the test fails is named, and the places behind a run of places are
-- asked where none of the run fails. So a line may be asked in parts.
use Rattle.std.specs.Prelude.{Err}
use mathlib.Core.Bool.{Bool, cond, false, true, true≢false}
use mathlib.Core.Logic.{by_cases}
use mathlib.Core.Path.{◌≡◌, ◌∙◌, ap, refl, subst, sym}
use Prim.Native.Nat.{ℕ, zero, suc, ◌+◌, ◌-◌, ◌<◌, ◌≤◌}
use native.Mathlib.Decide.{dec_lt}
use native.Mathlib.Omega.{arith}
use Rattle.encoding.proofs.Lowest as failing
use Rattle.encoding.specs.Lowest.{lowest_failing}
use Rattle.passage.specs.Read.{next}
use Rattle.passage.specs.Runs.{asked, wrong_at}
use Rattle.refusal.proofs.Tests.{refused_done}
use Rattle.refusal.specs.Refusals.{Outcome, done}

-- one place more
pub passed_more : (holds : ℕ → Bool) (from k : ℕ) → failing.AllHold holds from k → holds k ≡ true → failing.AllHold holds from (k + 1)
passed_more holds from k all here i low high =
    by_cases (dec_lt i k) (all i low) (λ past. let same : k ≡ i = omega arith in subst (λ j. holds j ≡ true) same here)

-- one part behind the other
pub passed_then : (holds : ℕ → Bool) (from mid to : ℕ) → failing.AllHold holds from mid → failing.AllHold holds mid to
    → failing.AllHold holds from to
passed_then holds from mid to all more i low high = by_cases (dec_lt i mid) (all i low) (λ past. more i (omega arith) high)

module _ (holds : ℕ → Bool) where
  -- what is asked where none of the places fails comes behind them
  pub asked_next : (more : Outcome) (k m : ℕ) → lowest_failing holds wrong_at more k m ≡ next (asked holds k m) Err more
  asked_next more k m = sym (failing.lowest-map holds wrong_at (λ o. next o Err more) done k m)

  pub asked_parts : (k m n : ℕ) → asked holds k (m + n) ≡ next (asked holds k m) Err (asked holds (k + m) n)
  asked_parts k m n =
      let all : k + (m + n) - k ≡ m + n = omega arith in
      let rest : k + (m + n) - (k + m) ≡ n = omega arith in
      ap (asked holds k) (sym all)
      ∙ failing.lowest-parted holds wrong_at done (k + (m + n)) k m (omega arith)
      ∙ ap (λ i. lowest_failing holds wrong_at (asked holds (k + m) i) k m) rest
      ∙ asked_next (asked holds (k + m) n) k m

  -- none fails
  pub asked_none : (k m : ℕ) → failing.AllHold holds k (k + m) → asked holds k m ≡ done
  asked_none k m all = failing.lowest-none holds wrong_at done k m all

  pub asked_all : (k m : ℕ) → asked holds k m ≡ done → failing.AllHold holds k (k + m)
  asked_all k m e = failing.none_all holds wrong_at done (λ j. refused_done _) k m e

  -- the lowest that fails
  pub asked_wrong : (k m j : ℕ) → failing.AllHold holds k j → k ≤ j → j < k + m → holds j ≡ false → asked holds k m ≡ wrong_at j
  asked_wrong k m j before low high fails =
      failing.by_lowest holds wrong_at (λ x. x ≡ wrong_at j) done k m (λ all. absurd (true≢false (sym (all j low high) ∙ fails)))
      (λ i other.
      ap wrong_at
      (by_cases (dec_lt i j) (λ l. absurd (true≢false (sym (before i other.at_least l) ∙ other.fails)))
      (λ g. by_cases (dec_lt j i) (λ l. absurd (true≢false (sym (other.lower_hold j low l) ∙ fails))) (λ h. omega arith))))

-- tests that agree at the places
pub asked_as : (holds other : ℕ → Bool) (k m : ℕ) → ((j : ℕ) → k ≤ j → j < k + m → holds j ≡ other j) → asked holds k m ≡ asked other k m
unfolding lowest_failing
asked_as holds other k zero same = refl
asked_as holds other k (suc m) same =
    ap (λ t. cond t (asked holds (suc k) m) (wrong_at k)) (same k (omega arith) (omega arith))
    ∙ ap (λ x. cond (other k) x (wrong_at k)) (asked_as holds other (suc k) m (λ j low high. same j (omega arith) (omega arith)))

-- .. and tests that agree at places d further on: the place that is named is d further on too
pub asked_moved : (holds other : ℕ → Bool) (d k m : ℕ) → ((j : ℕ) → k ≤ j → j < k + m → other (d + j) ≡ holds j)
    → asked other (d + k) m ≡ lowest_failing holds (λ j. wrong_at (d + j)) done k m
unfolding lowest_failing
asked_moved holds other d k zero same = refl
asked_moved holds other d k (suc m) same =
    let place : suc (d + k) ≡ d + suc k = omega arith in
    ap (λ t. cond t (asked other (suc (d + k)) m) (wrong_at (d + k))) (same k (omega arith) (omega arith))
    ∙ ap (λ x. cond (holds k) x (wrong_at (d + k)))
    (ap (λ i. asked other i m) place ∙ asked_moved holds other d (suc k) m (λ j low high. same j (omega arith) (omega arith)))
