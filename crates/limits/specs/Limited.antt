-- What a caller's limit changes in an operation, and what it does not (document 02, request 8).
use Rattle.std.specs.Prelude.{cond, List, ◌↔◌, ◌≡◌, ℕ, ◌<◌, ◌≤◌, ltb}
use Rattle.limits.specs.Blocks.{blocks, most_bits}
use Rattle.limits.specs.Limit.{Allows, IsLimit, allowance, limited, our_limit}
use Rattle.refusal.specs.declared.outcome.Refusal.TheVariants.{BlocksAboveLimit, LengthOutOfRange, LimitOutOfRange}
use Rattle.refusal.specs.declared.outcome.Refusal.{Refusal}

-- Of an operation on a length of n bits that answers `answer l` with limit l and leaves the bytes `left l`. `Passes` says that 13 and 14 pass.
pub record Limited {A : Type 0} (refused : Refusal → A) (n : ℕ) (Passes : Type 0) (answer : ℕ → A) (left : ℕ → List ℕ) : Type 0 where
  -- "21, a limit outside 1 to 16": exactly then, whatever else is wrong
  pub outside : (l : ℕ) → (answer l ≡ refused LimitOutOfRange) ↔ (IsLimit l → ⊥)
  -- "2. The record length is above" 8,127: exactly then, whatever the limit
  pub long : (l : ℕ) → IsLimit l → (answer l ≡ refused LengthOutOfRange) ↔ (most_bits < n)
  -- "22, a length that needs more blocks than the limit, directly after 14": exactly then, where 2, 13 and 14 pass
  pub beyond : (l : ℕ) → IsLimit l → (answer l ≡ refused BlocksAboveLimit) ↔ ((n ≤ most_bits) × Passes × (l < blocks n))
  -- "whoever asks with two blocks gets, but for 22, the answer sixteen would give", with the bytes that sixteen would leave
  pub otherwise : (l : ℕ) → IsLimit l → (answer l ≡ refused BlocksAboveLimit → ⊥) → (answer l ≡ answer our_limit) × (left l ≡ left our_limit)
  -- "Under either limit the rows and assignments of a length that both allow are equal"
  pub same : (k l : ℕ) → Allows k n → Allows l n → (answer k ≡ answer l) × (left k ≡ left l)

-- "our own sixteen stand": with sixteen, 21 and 22 do not come up, and the answer is what it was before there was a limit
abbrev pub OursStand : Type 1
OursStand =
    (A : Type 0) (refused : Refusal → A) (asked : A → A) (n : ℕ) (next : A)
    → limited refused asked (allowance our_limit n) next ≡ cond (ltb most_bits n) (refused LengthOutOfRange) (asked next)
