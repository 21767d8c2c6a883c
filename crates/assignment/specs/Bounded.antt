-- Entries below a limit: devices of the contracts of the parts that test them. What is refused is said without them.
use Rattle.refusal.specs.declared.numbers.WireNumber.{WireNumber}
use Rattle.std.specs.Prelude.{ℕ, ◌+◌, ◌<◌, ◌≤◌, ltb, List, Some, None, Option}
use Rattle.assignment.specs.Assignment.{entry}
use Rattle.encoding.specs.Lowest.{lowest_failing}
use Rattle.field.specs.Field.{p}

-- the lowest of the m wires from k on whose entry is not below the limit, if there is one
unfoldable pub lowest_not_below : ℕ → List ℕ → ℕ → ℕ → Option WireNumber
lowest_not_below limit assignment k m =
    lowest_failing (λ w. ltb (entry assignment w) limit) (λ w. Some (record { 0 = w })) None k m

-- none of the n entries from w on is above x
pub record AtMost (w n x : ℕ) (bytes : List ℕ) : Type 0 where
  pub each : (i : ℕ) → i < n → entry bytes (w + i) ≤ x

-- every entry is below the prime; past the last one nothing stands, which reads as 0
pub record BelowPrime (bytes : List ℕ) : Type 0 where
  pub each : (w : ℕ) → entry bytes w < p
