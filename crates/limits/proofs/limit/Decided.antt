-- What a limit says of a length, by cases: it is outside its range; the length is; the length needs more blocks than the limit; or it is
-- allowed. A length in range has at most sixteen blocks, and so many bits in blocks of at most a limit are in range.
use Rattle.std.specs.Prelude.{Err, Ok, Result}
use mathlib.Core.Logic.{by_cases}
use mathlib.Core.Path.{◌≡◌, ◌∙◌, ap, subst, sym}
use Prim.Native.Nat.{ℕ, ◌<◌, ◌≤◌}
use native.Mathlib.Decide.{dec_lt}
use native.Mathlib.Omega.{arith}
use borrow.Author.Tests.{le-ltb, lt-ltb}
use Rattle.limits.specs.Blocks.{blocks, most_bits}
use Rattle.limits.specs.Limit.{Allows, IsLimit, allowance, limited, our_limit}
use Rattle.limits.specs.declared.limit.Allowance.TheVariants.{Beyond, Within}
use Rattle.limits.specs.declared.limit.Allowance.{Allowance}
use Rattle.refusal.specs.declared.outcome.Refusal.TheVariants.{BlocksAboveLimit, LengthOutOfRange, LimitOutOfRange}
use Rattle.refusal.specs.declared.outcome.Refusal.{Refusal}

-- tells the three apart
abbrev place : Result Allowance Refusal → ℕ
place (Ok Within) = 0
place (Ok Beyond) = 1
place (Err r) = 2

apart : {x j k : ℕ} → x ≡ j → x ≡ k → (j ≡ k → ⊥) → ⊥
apart p q differ = differ (sym p ∙ q)

-- sixteen blocks are enough for every length in range
pub ours_enough : (n : ℕ) → n ≤ most_bits → blocks n ≤ our_limit
unfolding blocks
ours_enough n range = omega arith

-- and what has no more of them is in range
pub allowed_range : {l n : ℕ} → Allows l n → n ≤ most_bits
unfolding blocks
allowed_range {l} {n} a = omega (arith, a.limit.1, a.fits)

module _ (l n : ℕ) where
  pub limit_cases : {P : Type 0} → ((IsLimit l → ⊥) → P) → (IsLimit l → most_bits < n → P) → (IsLimit l → n ≤ most_bits → l < blocks n → P)
      → (Allows l n → P) → P
  limit_cases outside long beyond within =
      by_cases (dec_lt l 1) (λ none. outside (λ is. omega (arith, none, is.0)))
      (λ some.
      by_cases (dec_lt our_limit l) (λ many. outside (λ is. omega (arith, many, is.1)))
      (λ few.
      let is : IsLimit l = (omega (arith, some), omega (arith, few)) in
      by_cases (dec_lt most_bits n) (long is)
      (λ range.
      by_cases (dec_lt l (blocks n)) (beyond is (omega (arith, range)))
      (λ fits. within (record { limit = is; fits = omega (arith, fits) })))))

  pub outside_limit : (IsLimit l → ⊥) → allowance l n ≡ Err LimitOutOfRange
  unfolding allowance
  outside_limit wrong =
      by_cases (dec_lt l 1) (λ none. rw (lt-ltb l 1 none))
      (λ some.
      let least : 1 ≤ l = omega (arith, some) in
      by_cases (dec_lt our_limit l) (λ many. rw (le-ltb l 1 least, lt-ltb our_limit l many))
      (λ few. absurd (wrong (least, omega (arith, few)))))

  module _ (is : IsLimit l) where
    pub too_long : most_bits < n → allowance l n ≡ Err LengthOutOfRange
    unfolding allowance
    too_long above = rw (le-ltb l 1 is.0, le-ltb our_limit l is.1, lt-ltb most_bits n above)

    pub beyond_limit : n ≤ most_bits → l < blocks n → allowance l n ≡ Ok Beyond
    unfolding allowance
    beyond_limit range above = rw (le-ltb l 1 is.0, le-ltb our_limit l is.1, le-ltb most_bits n range, lt-ltb l (blocks n) above)

  pub within_limit : Allows l n → allowance l n ≡ Ok Within
  unfolding allowance
  within_limit a =
      rw (le-ltb l 1 a.limit.0, le-ltb our_limit l a.limit.1, le-ltb most_bits n (allowed_range a), le-ltb l (blocks n) a.fits)

  -- and back, for the two that are no refusal
  pub within-allows : allowance l n ≡ Ok Within → Allows l n
  within-allows e =
      limit_cases (λ wrong. absurd (apart (ap place e) (ap place (outside_limit wrong)) (omega arith)))
      (λ is above. absurd (apart (ap place e) (ap place (too_long is above)) (omega arith)))
      (λ is range above. absurd (apart (ap place e) (ap place (beyond_limit is range above)) (omega arith)))
      (λ a. a)

  pub beyond_range : allowance l n ≡ Ok Beyond → n ≤ most_bits
  beyond_range e =
      limit_cases (λ wrong. absurd (apart (ap place e) (ap place (outside_limit wrong)) (omega arith)))
      (λ is above. absurd (apart (ap place e) (ap place (too_long is above)) (omega arith)))
      (λ is range above. range) allowed_range

  -- a length that is no refusal is in range
  pub in_range : (a : Allowance) → allowance l n ≡ Ok a → n ≤ most_bits
  in_range Within e = allowed_range (within-allows e)
  in_range Beyond e = beyond_range e

-- What holds of all answers that there could be, and goes on to hold past what is asked of record bytes, holds of the answer.
module _ {A : Type 0} (P : A → Type 0) (refused : Refusal → A) (asked : A → A) (next : A) (l n : ℕ) where
  given : (t : Result Allowance Refusal) → allowance l n ≡ t → P (limited refused asked t next) → P (limited refused asked (allowance l n) next)
  given t e holds = subst (λ t. P (limited refused asked t next)) (sym e) holds

  pub limited-holds : ((x : A) → P x → P (asked x)) → P (refused LimitOutOfRange) → P (refused LengthOutOfRange) → P (refused BlocksAboveLimit)
      → (Allows l n → P next) → P (limited refused asked (allowance l n) next)
  limited-holds on outside long beyond within =
      limit_cases l n (λ wrong. given _ (outside_limit l n wrong) outside) (λ is above. given _ (too_long l n is above) long)
      (λ is range above. given _ (beyond_limit l n is range above) (on _ beyond))
      (λ allowed. given _ (within_limit l n allowed) (on _ (within allowed)))
