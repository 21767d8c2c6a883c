-- The lowest row that is not satisfied is the lowest place at which the test of a row fails, so the laws of such a place are laws
-- of that row.
use Rattle.std.specs.Prelude.{Some, None}
use Rattle.std.proofs.lemmas.Option.{none-some}
use mathlib.Core.Bool.{false, true}
use mathlib.Core.Logic.{◌↔◌}
use mathlib.Core.Path.{◌≡◌, subst, sym}
use Prim.Native.Nat.{ℕ, ◌+◌, ◌-◌, ◌<◌, ◌≤◌}
use native.Mathlib.Omega.{arith}
use Rattle.encoding.proofs.Lowest as failing
use Rattle.forms.specs.Rows.{Row, Satisfied, holds}
use Rattle.refusal.specs.declared.numbers.RowNumber.{RowNumber}
use Rattle.satisfaction.specs.Lowest.{LowestFailing, lowest}

module _ (a : ℕ → ℕ) (rows : ℕ → Row) where
  pub lowest_all : (k m : ℕ) → (lowest a rows k m ≡ None) ↔ ((i : ℕ) → k ≤ i → i < k + m → Satisfied a (rows i))
  unfolding lowest
  lowest_all k m = (failing.none_all _ _ None (λ j e. none-some _ (sym e)) k m, failing.lowest-none _ _ None k m)

  pub lowest_failing_lem : (k m : ℕ) (j : RowNumber) → lowest a rows k m ≡ Some j → LowestFailing a rows k (k + m) j.0
  unfolding lowest
  lowest_failing_lem k m j =
      failing.by_lowest _ _ (λ v. v ≡ Some j → LowestFailing a rows k (k + m) j.0) None k m
      (λ all e. absurd (none-some _ e))
      (λ i low e.
      let same : i ≡ j.0 = cc in
      subst (LowestFailing a rows k (k + m)) same low)

  -- of the rows from k on and below n, m hold: the lowest is one after them
  module _ (n k m : ℕ) (l : k + m ≤ n) where
    pub lowest-past : ((i : ℕ) → k ≤ i → i < k + m → Satisfied a (rows i)) → lowest a rows k (n - k) ≡ lowest a rows (k + m) (n - (k + m))
    unfolding lowest
    lowest-past = failing.lowest-past _ _ None n k m l

-- The lowest of the rows from k on, of n in all.
module _ (a : ℕ → ℕ) (rows : ℕ → Row) (n k : ℕ) where
  pub lowest_end : k ≡ n → lowest a rows k (n - k) ≡ None
  unfolding lowest
  lowest_end e = failing.lowest_end _ _ None n k (omega arith)

  module _ (l : k < n) where
    pub lowest-holds : holds a (rows k) ≡ true → lowest a rows k (n - k) ≡ lowest a rows (k + 1) (n - (k + 1))
    unfolding lowest
    lowest-holds = failing.lowest-holds _ _ None n k l

    pub lowest_fails : holds a (rows k) ≡ false → lowest a rows k (n - k) ≡ Some (record { 0 = k })
    unfolding lowest
    lowest_fails = failing.lowest_fails _ _ None n k l
