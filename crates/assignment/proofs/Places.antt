-- What `all` tells of a range of places: a fact of each of them, or a place where it fails.
use Rattle.std.proofs.Common.{◌≡◌, ℕ, ◌+◌, ◌-◌, ◌<◌, ◌≤◌, Bool, true, false, length, ◌∙◌, subst, arith}
use Rattle.std.proofs.lemmas.List.FromFn.{get_or-range_with_len, length-range_with_len}
use Rattle.std.specs.Bool.{MatchBool}
use Rattle.std.specs.List.{AllWithin, HoldsAt, range_with_len}

module _ (from n : ℕ) where
  pub all_places : (Yes No : ℕ → Type 0) (r : Bool)
      → MatchBool r (AllWithin Yes (range_with_len from n) 0 (length (range_with_len from n)))
      ((k : ℕ) × (k < length (range_with_len from n)) × HoldsAt No (range_with_len from n) k)
      → MatchBool r ((k : ℕ) → from ≤ k → k < from + n → Yes k) ((k : ℕ) × (from ≤ k) × (k < from + n) × No k)
  all_places Yes No true all =
      λ k first l.
      let within : k - from < n = omega arith in
      let place : from + (k - from) ≡ k = omega arith in
      subst Yes (get_or-range_with_len from n (k - from) 0 within ∙ place)
      (all (k - from) 0 (omega arith) (omega (arith, length-range_with_len from n)))
  all_places Yes No false (k, l, other) =
      let within : k < n = omega (arith, length-range_with_len from n) in
      (from + k, omega arith, omega arith, subst No (get_or-range_with_len from n k 0 within) (other 0))
