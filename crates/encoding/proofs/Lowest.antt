-- The lowest place at which a test fails. The places are tried in their order, so the answer is `none` only past the last, and
-- `found j` only at a place at which the test fails where it held at every one tried before: `by_lowest`. All else follows from that.
use mathlib.Core.Bool.{Bool, cond, false, true, true≢false}
use mathlib.Core.Logic.{by_cases}
use mathlib.Core.Path.{◌≡◌, ◌∙◌, ap, refl, subst, sym}
use Prim.Native.Nat.{ℕ, zero, suc, ◌+◌, ◌-◌, ◌<◌, ◌≤◌}
use native.Mathlib.Decide.{dec_lt}
use native.Mathlib.Nat.{add-zero}
use native.Mathlib.Omega.{arith}
use Rattle.encoding.specs.Lowest.{IsLowest, lowest_failing}

-- the test holds at the places from k on and below n
abbrev pub AllHold : (ℕ → Bool) → ℕ → ℕ → Type 0
AllHold holds k n = (i : ℕ) → k ≤ i → i < n → holds i ≡ true

-- what holds at k and from there on
first_and_rest : (holds : ℕ → Bool) (k n : ℕ) → holds k ≡ true → AllHold holds (suc k) n → AllHold holds k n
first_and_rest holds k n first rest i l h =
    by_cases (dec_lt k i) (λ past. rest i past h) (λ at. let same : k ≡ i = omega arith in subst (λ j. holds j ≡ true) same first)

module _ {A : Type 0} (holds : ℕ → Bool) (found : ℕ → A) where
  -- the test holds everywhere, or there is a lowest place at which it fails
  pub by_lowest : (P : A → Type 0) (none : A) (k m : ℕ) → (AllHold holds k (k + m) → P none)
      → ((j : ℕ) → IsLowest holds k (k + m) j → P (found j)) → P (lowest_failing holds found none k m)
  unfolding lowest_failing
  by_lowest P none k zero all some = all (λ i l h. absurd (omega arith))
  by_lowest P none k (suc m) all some =
      by_test (holds k) refl
      (λ first.
      by_lowest P none (suc k) m
      (λ rest. all (first_and_rest holds k (k + suc m) first (λ i l h. rest i l (omega arith))))
      (λ j low.
      some j
      (record {
        at_least = omega (arith, low.at_least);
        below = omega (arith, low.below);
        fails = low.fails;
        lower_hold = first_and_rest holds k j first low.lower_hold;
      })))
    where
      by_test : (t : Bool) → holds k ≡ t → (holds k ≡ true → P (lowest_failing holds found none (suc k) m))
          → P (cond t (lowest_failing holds found none (suc k) m) (found k))
      by_test true h rest = rest h
      by_test false h rest =
          some k (record { at_least = omega arith; below = omega arith; fails = h; lower_hold = λ i l b. absurd (omega arith) })

  never : {j : ℕ} → holds j ≡ true → holds j ≡ false → ⊥
  never h f = true≢false (sym h ∙ f)

  -- where the test holds everywhere
  pub lowest-none : (none : A) (k m : ℕ) → AllHold holds k (k + m) → lowest_failing holds found none k m ≡ none
  lowest-none none k m all =
      by_lowest (λ x. x ≡ none) none k m (λ _. refl) (λ j low. absurd (never (all j low.at_least low.below) low.fails))

  -- where j is the lowest place at which it fails
  lowest_found : (none : A) (k m j : ℕ) → IsLowest holds k (k + m) j → lowest_failing holds found none k m ≡ found j
  lowest_found none k m j low =
      by_lowest (λ x. x ≡ found j) none k m (λ all. absurd (never (all j low.at_least low.below) low.fails))
      (λ i other. ap found (by_cases (dec_lt i j) (λ l. absurd (never (low.lower_hold i other.at_least l) other.fails))
      (λ g. by_cases (dec_lt j i) (λ l. absurd (never (other.lower_hold j low.at_least l) low.fails)) (λ h. omega arith))))

  -- what a function makes of the answer
  pub lowest-map : {B : Type 0} (f : A → B) (none : A) (k m : ℕ)
      → f (lowest_failing holds found none k m) ≡ lowest_failing holds (λ i. f (found i)) (f none) k m
  unfolding lowest_failing
  lowest-map {B} f none k zero = refl
  lowest-map {B} f none k (suc m) = by_test (holds k) (lowest-map f none (suc k) m)
    where
      by_test : {x : A} {y : B} (t : Bool) → f x ≡ y → f (cond t x (found k)) ≡ cond t y (f (found k))
      by_test true e = e
      by_test false e = refl

  -- m places, then n more
  lowest-add : (none : A) (m k n : ℕ)
      → lowest_failing holds found none k (m + n) ≡ lowest_failing holds found (lowest_failing holds found none (k + m) n) k m
  unfolding lowest_failing
  lowest-add none zero k n =
      let count : 0 + n ≡ n = omega arith in
      ap (lowest_failing holds found none k) count ∙ ap (λ i. lowest_failing holds found none i n) (sym (add-zero k))
  lowest-add none (suc m) k n =
      let more : suc m + n ≡ suc (m + n) = omega arith in
      let place : suc k + m ≡ k + suc m = omega arith in
      ap (lowest_failing holds found none k) more
      ∙ ap (λ x. cond (holds k) x (found k))
      (lowest-add none m (suc k) n
      ∙ ap (λ i. lowest_failing holds found (lowest_failing holds found none i n) (suc k) m) place)

  -- Of the places from k on and below n.
  module _ (none : A) (n k : ℕ) where
    pub lowest_end : n ≤ k → lowest_failing holds found none k (n - k) ≡ none
    lowest_end past = lowest-none none k (n - k) (λ i l h. absurd (omega arith))

    -- .. m are tried first
    pub lowest-parted : (m : ℕ) → k + m ≤ n
        → lowest_failing holds found none k (n - k)
        ≡ lowest_failing holds found (lowest_failing holds found none (k + m) (n - (k + m))) k m
    lowest-parted m l =
        let count : n - k ≡ m + (n - (k + m)) = omega arith in
        ap (lowest_failing holds found none k) count ∙ lowest-add none m k (n - (k + m))

    -- .. and where the test holds at these, the others decide
    pub lowest-past : (m : ℕ) → k + m ≤ n → AllHold holds k (k + m)
        → lowest_failing holds found none k (n - k) ≡ lowest_failing holds found none (k + m) (n - (k + m))
    lowest-past m l all = lowest-parted m l ∙ lowest-none _ k m all

    -- one place
    module _ (l : k < n) where
      pub lowest-holds : holds k ≡ true
          → lowest_failing holds found none k (n - k) ≡ lowest_failing holds found none (k + 1) (n - (k + 1))
      lowest-holds h = lowest-past 1 (omega arith) (λ i at_least below. let same : k ≡ i = omega arith in subst (λ j. holds j ≡ true) same h)

      pub lowest_fails : holds k ≡ false → lowest_failing holds found none k (n - k) ≡ found k
      lowest_fails h =
          lowest_found none k (n - k) k
          (record { at_least = omega arith; below = omega arith; fails = h; lower_hold = λ i l b. absurd (omega arith) })

  -- What the answer about the first m places tells, where `found` is never `none`.
  module _ (none : A) (apart : (j : ℕ) → found j ≡ none → ⊥) (k m : ℕ) where
    pub none_all : lowest_failing holds found none k m ≡ none → AllHold holds k (k + m)
    none_all =
        by_lowest (λ x. x ≡ none → AllHold holds k (k + m)) none k m (λ all _. all) (λ j low e. absurd (apart j e))

    -- it is the answer whatever would come after them
    pub lowest_among : (other : A) → (lowest_failing holds found none k m ≡ none → ⊥)
        → lowest_failing holds found other k m ≡ lowest_failing holds found none k m
    lowest_among other =
        by_lowest (λ x. (x ≡ none → ⊥) → lowest_failing holds found other k m ≡ x) none k m (λ all some. absurd (some refl))
        (λ j low some. lowest_found other k m j low)
