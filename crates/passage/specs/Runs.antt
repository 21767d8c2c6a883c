-- Devices of the contracts of the functions that ask a line in parts, on which no contract of `read`, `write`, `seal` or `check` rests: places
-- that stand one after the other.
use Rattle.std.specs.Prelude.{Bool, cond, true, List, ◌≡◌, ℕ, ◌+◌, ◌≤◌, ◌<◌, eqb, get_or, Err}
use Rattle.encoding.specs.Lowest.{lowest_failing}
use Rattle.passage.specs.Format.{fits, kind_at}
use Rattle.passage.specs.declared.format.Kind.TheVariants.{PlateFirst, PlateNext}
use Rattle.passage.specs.declared.format.Kind.{Kind}
use Rattle.refusal.specs.Refusals.{Outcome, done}
use Rattle.refusal.specs.declared.outcome.Refusal.TheVariants.{WrongByte}
use Rattle.text.specs.Decimal.{is_digit}

-- refusal 16 of place k
abbrev pub wrong_at : ℕ → Outcome
wrong_at k = Err (WrongByte (record { 0 = k }))

-- .. of the lowest of the m places from k on at which the test fails, or none
abbrev pub asked : (ℕ → Bool) → ℕ → ℕ → Outcome
asked holds k m = lowest_failing holds wrong_at done k m

-- whether the byte at place k may stand in a plate that begins at `first`
abbrev pub plate_fits : ℕ → List ℕ → ℕ → Bool
plate_fits first s k = cond (eqb k first) (fits PlateFirst s k) (fits PlateNext s k)

-- the places from `from` on and below `to` have one kind
abbrev pub Run : Kind → ℕ → ℕ → Type 0
Run kind from to = (k : ℕ) → from ≤ k → k < to → kind_at k ≡ kind

-- n digits stand from place `at` on
abbrev pub Digits : List ℕ → ℕ → ℕ → Type 0
Digits s at n = (i : ℕ) → i < n → is_digit (get_or s (at + i) 0) ≡ true
