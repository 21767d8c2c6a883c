-- Entries below the prime (document 02, request 6).
use Rattle.refusal.specs.Refusals.{Outcome}
use Rattle.std.specs.Prelude.{ℕ, ltb, List, Err}
use Rattle.assignment.specs.Assignment.{entry}
use Rattle.encoding.specs.Lowest.{lowest_failing}
use Rattle.field.specs.Field.{p}
use Rattle.refusal.specs.declared.numbers.WireNumber.{WireNumber}
use Rattle.refusal.specs.declared.outcome.Refusal.TheVariants.{EntryNotBelowPrime}
use Rattle.refusal.specs.declared.outcome.Refusal.{Refusal}

-- an answer that refuses the lowest of the first n entries that is not below a limit, and is `next` where there is none
unfoldable pub limit_answer : (WireNumber → Refusal) → ℕ → ℕ → List ℕ → Outcome → Outcome
limit_answer refusal limit n assignment next =
    lowest_failing (λ w. ltb (entry assignment w) limit) (λ w. Err (refusal (record { 0 = w }))) next 0 n

-- "20, an entry of p or more (lowest wire returned)"
abbrev pub below_prime_answer : ℕ → List ℕ → Outcome → Outcome
below_prime_answer = limit_answer EntryNotBelowPrime p
