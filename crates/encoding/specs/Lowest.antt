-- The lowest of some places at which a test fails.
use Rattle.std.specs.Prelude.{Bool, cond, false, true, ◌≡◌, ℕ, zero, suc, ◌<◌, ◌≤◌}

-- of the m places from k on: what `found` makes of the lowest one at which the test fails, or `none` where it fails at none. That
-- it finds that place says `IsLowest`, below (`by_lowest` of proofs/Lowest)
unfoldable pub lowest_failing : {A : Type 0} → (ℕ → Bool) → (ℕ → A) → A → ℕ → ℕ → A
lowest_failing holds found none k zero = none
lowest_failing holds found none k (suc m) = cond (holds k) (lowest_failing holds found none (suc k) m) (found k)

-- of the places from k on and below n, j is the lowest at which the test fails
pub record IsLowest (holds : ℕ → Bool) (k n j : ℕ) : Type 0 where
  pub at_least : k ≤ j
  pub below : j < n
  pub fails : holds j ≡ false
  pub lower_hold : (i : ℕ) → k ≤ i → i < j → holds i ≡ true
