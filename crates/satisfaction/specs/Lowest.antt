-- What the rows make of an assignment (document 01, "Refusals in checking order").
use Rattle.refusal.specs.declared.numbers.RowNumber.{RowNumber}
use Rattle.std.specs.Prelude.{Bool, ℕ, Some, None, Option}
use Rattle.encoding.specs.Lowest.{IsLowest, lowest_failing}
use Rattle.forms.specs.Rows.{Row, holds}

-- the lowest of m rows from row k on that a test says is not satisfied
abbrev pub lowest_by : (ℕ → Bool) → ℕ → ℕ → Option RowNumber
lowest_by test k m = lowest_failing test (λ i. Some (record { 0 = i })) None k m

-- "the lowest row that is not satisfied". That what it finds is that row says `LowestFailing`, below
unfoldable pub lowest : (ℕ → ℕ) → (ℕ → Row) → ℕ → ℕ → Option RowNumber
lowest a rows k m = lowest_by (λ i. holds a (rows i)) k m

-- of the rows from k on and below n, row j is the lowest that is not satisfied
abbrev pub LowestFailing : (ℕ → ℕ) → (ℕ → Row) → ℕ → ℕ → ℕ → Type 0
LowestFailing a rows k n j = IsLowest (λ i. holds a (rows i)) k n j
