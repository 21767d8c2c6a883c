-- The caller's limit in blocks (document 02, request 8: "Each call that takes a record or a record's length names its caller's limit in
-- blocks").
use Rattle.refusal.specs.Refusals.{Outcome, done}
use Rattle.std.specs.Prelude.{cond, ℕ, ◌≤◌, ltb, Err, Ok, Result}
use Rattle.limits.specs.Blocks.{blocks, most_bits}
use Rattle.limits.specs.declared.limit.Allowance.TheVariants.{Beyond, Within}
use Rattle.limits.specs.declared.limit.Allowance.{Allowance}
use Rattle.refusal.specs.declared.outcome.Refusal.TheVariants.{BlocksAboveLimit, LengthOutOfRange, LimitOutOfRange}
use Rattle.refusal.specs.declared.outcome.Refusal.{Refusal}

-- "our own sixteen stand": also that of the programs `rows`, `steps` and `packed`
abbrev pub our_limit : ℕ
our_limit = 16

-- "A partner road accepts two blocks at most": also that of "the passage and axle calls"
abbrev pub partner_limit : ℕ
partner_limit = 2

-- what a limit of l blocks says of a length of n bits
unfoldable pub allowance : ℕ → ℕ → Result Allowance Refusal
allowance l n =
    -- "21, a limit outside 1 to 16, before 2"
    cond (ltb l 1) (Err LimitOutOfRange)
    (cond (ltb our_limit l) (Err LimitOutOfRange)
    -- "2. The record length is above" 8,127
    (cond (ltb most_bits n) (Err LengthOutOfRange)
    -- "22, a length that needs more blocks than the limit"
    (cond (ltb l (blocks n)) (Ok Beyond) (Ok Within))))

-- "22, a length that needs more blocks than the limit"
abbrev pub blocks_answer : Allowance → Outcome
blocks_answer Within = done
blocks_answer Beyond = Err BlocksAboveLimit

-- the answer of an operation, of whatever kind it is: after 21 and 2 comes `asked`, what is asked of record bytes, then 22, "directly after 14",
-- and then the answer `next`
abbrev pub limited : {A : Type 0} → (Refusal → A) → (A → A) → Result Allowance Refusal → A → A
limited refused asked (Err r) next = refused r
limited refused asked (Ok Beyond) next = asked (refused BlocksAboveLimit)
limited refused asked (Ok Within) next = asked next

-- .. without record bytes
unfoldable pub length_answer : ℕ → ℕ → Outcome → Outcome
length_answer l n next = limited Err (λ answer. answer) (allowance l n) next

-- "the named limit, itself from 1 to 16"
abbrev pub IsLimit : ℕ → Type 0
IsLimit l = (1 ≤ l) × (l ≤ our_limit)

-- "Demand 3's lengths and records in range are from here those that the named limit .. allows": a length of n bits
pub record Allows (l n : ℕ) : Type 0 where
  pub limit : IsLimit l
  pub fits : blocks n ≤ l
