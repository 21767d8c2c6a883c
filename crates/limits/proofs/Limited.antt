-- What a limit changes in an answer. There are four cases: a limit outside its range is 21 and a length outside its own is 2, whatever follows;
-- where the length needs more blocks than the limit, the answer is 22 past the tests before it; else it is what follows, which does not see
-- the limit. Sixteen blocks are enough for every length in range, so that with sixteen the third case does not come up.
use Rattle.std.specs.Prelude.{Err, Result}
use mathlib.Core.Bool.{Bool, cond, false, true≢false}
use mathlib.Core.List.{List}
use mathlib.Core.Logic.{by_cases}
use mathlib.Core.Path.{◌≡◌, ◌∙◌, ap, refl, subst, sym}
use Prim.Native.Nat.{ℕ, ◌<◌, ◌≤◌}
use native.Mathlib.Decide.{dec_lt}
use native.Mathlib.Omega.{arith}
use borrow.Author.Tests.{eq-eqb, le-ltb, lt-ltb}
use lib.Dec.{eqb, ltb}
use Rattle.limits.proofs.limit.Decided.{allowed_range, beyond_limit, limit_cases, ours_enough, outside_limit, too_long, within_limit}
use Rattle.limits.specs.Blocks.{blocks, most_bits}
use Rattle.limits.specs.Limit.{Allows, IsLimit, allowance, length_answer, limited, our_limit}
use Rattle.limits.specs.Limited.{Limited, OursStand}
use Rattle.limits.specs.declared.limit.Allowance.{Allowance}
use Rattle.refusal.proofs.Small.{tested}
use Rattle.refusal.specs.Refusals.{outcome_number, refusal_number, Outcome, done}
use Rattle.refusal.specs.declared.outcome.Refusal.TheVariants.{BlocksAboveLimit, BufferTooShort, LengthOutOfRange, LimitOutOfRange}
use Rattle.refusal.specs.declared.outcome.Refusal.{Refusal}

-- the number of an answer that is none of a limit's and a length's own
pub record Other (k : ℕ) : Type 0 where
  pub not_2 : k ≡ 2 → ⊥
  pub not_21 : k ≡ 21 → ⊥
  pub not_22 : k ≡ 22 → ⊥

-- tests that let any answer through, or give one that is none of these, whatever follows
pub record Asks {A : Type 0} (number : A → ℕ) (Passes : Type 0) (asked : A → A) : Type 0 where
  pub passed : Passes → (x : A) → asked x ≡ x
  pub failed : (Passes → ⊥) → (x y : A) → (asked x ≡ asked y) × Other (number (asked x))
  pub decided : Dec Passes

pub other_number : (k : ℕ) → eqb k 2 ≡ false → eqb k 21 ≡ false → eqb k 22 ≡ false → Other k
other_number k no-2 no-21 no-22 =
    record { not_2 = λ e. unequal e no-2; not_21 = λ e. unequal e no-21; not_22 = λ e. unequal e no-22 }
  where
    unequal : {j : ℕ} → k ≡ j → eqb k j ≡ false → ⊥
    unequal {j} e differ = true≢false (sym (eq-eqb k j e) ∙ differ)

-- the test of a buffer
pub room_other : (t : Bool) → Other (outcome_number (cond t (Err BufferTooShort) done))
room_other t = tested (λ o. Other (outcome_number o)) t (other_number 4 refl refl refl) (λ _. other_number 0 refl refl refl)

-- no tests at all
pub asks_nothing : {A : Type 0} (number : A → ℕ) → Asks number (Unit {0}) (λ x. x)
asks_nothing number =
    record { passed = λ p x. refl; failed = λ f x y. absurd (f tt); decided = yes tt }

ours : IsLimit our_limit
ours = (omega arith, omega arith)

-- with sixteen every length in range is allowed
pub ours_allow : (n : ℕ) → n ≤ most_bits → Allows our_limit n
ours_allow n range = record { limit = ours; fits = ours_enough n range }

pub ours_stand : OursStand
ours_stand A refused asked n next =
    by_cases (dec_lt most_bits n)
    (λ above. ap (λ t. limited refused asked t next) (too_long our_limit n ours above) ∙ rw (lt-ltb most_bits n above))
    (λ fits.
    let range : n ≤ most_bits = omega (arith, fits) in
    ap (λ t. limited refused asked t next) (within_limit our_limit n (ours_allow n range)) ∙ rw (le-ltb most_bits n range))

pub ours_length : (n : ℕ) (next : Outcome) → length_answer our_limit n next ≡ cond (ltb most_bits n) (Err LengthOutOfRange) next
unfolding length_answer
ours_length n next = ours_stand Outcome Err (λ answer. answer) n next

-- Of an operation whose answers have these numbers, that asks so, and that else answers `next` and leaves `leaves` of its answer.
module _ {A : Type 0} (refused : Refusal → A) (number : A → ℕ) (named : (r : Refusal) → number (refused r) ≡ refusal_number r)
    (n : ℕ) {Passes : Type 0} (asked : A → A) (asks : Asks number Passes asked) (next : A) (other : Other (number next)) (leaves : A → List ℕ) where
  abbrev answer : ℕ → A
  answer l = limited refused asked (allowance l n) next

  abbrev given : Result Allowance Refusal → A
  given t = limited refused asked t next

  at_outside : (l : ℕ) → (IsLimit l → ⊥) → answer l ≡ refused LimitOutOfRange
  at_outside l wrong = ap given (outside_limit l n wrong)

  at_long : (l : ℕ) → IsLimit l → most_bits < n → answer l ≡ refused LengthOutOfRange
  at_long l is above = ap given (too_long l n is above)

  at_beyond : (l : ℕ) → IsLimit l → n ≤ most_bits → l < blocks n → answer l ≡ asked (refused BlocksAboveLimit)
  at_beyond l is range above = ap given (beyond_limit l n is range above)

  at-within : (l : ℕ) → Allows l n → answer l ≡ asked next
  at-within l allowed = ap given (within_limit l n allowed)

  -- an answer that is a refusal has its number
  numbered : {a : A} (r : Refusal) → a ≡ refused r → number a ≡ refusal_number r
  numbered r e = ap number e ∙ named r

  same_number : {a b : A} → a ≡ b → Other (number b) → Other (number a)
  same_number e o = subst (λ x. Other (number x)) (sym e) o

  -- which number the answer has
  answer_cases : (l : ℕ) {P : Type 0}
      → ((IsLimit l → ⊥) → number (answer l) ≡ 21 → P)
      → (most_bits < n → number (answer l) ≡ 2 → P)
      → (n ≤ most_bits → Passes → l < blocks n → number (answer l) ≡ 22 → P)
      → (Other (number (answer l)) → P)
      → P
  answer_cases l outside long beyond within =
      limit_cases l n
      (λ wrong. outside wrong (numbered LimitOutOfRange (at_outside l wrong)))
      (λ is above. long above (numbered LengthOutOfRange (at_long l is above)))
      (λ is range above.
      by_cases asks.decided
      (λ p. beyond range p above (numbered BlocksAboveLimit (at_beyond l is range above ∙ asks.passed p (refused BlocksAboveLimit))))
      (λ f. within (same_number (at_beyond l is range above) (asks.failed f (refused BlocksAboveLimit) next).1)))
      (λ allowed.
      by_cases asks.decided (λ p. within (same_number (at-within l allowed ∙ asks.passed p next) other))
      (λ f. within (same_number (at-within l allowed) (asks.failed f next next).1)))

  equal : {a b : A} → a ≡ b → (a ≡ b) × (leaves a ≡ leaves b)
  equal e = (e, ap leaves e)

  pub limited_operation : Limited refused n Passes answer (λ l. leaves (answer l))
  limited_operation =
      record {
        outside =
            λ l. (
              λ e is.
                  let k = numbered LimitOutOfRange e in
                  answer_cases l (λ wrong _. wrong is) (λ _ m. omega (arith, k, m)) (λ _ _ _ m. omega (arith, k, m)) (λ o. o.not_21 k),
              at_outside l,
            );
        long =
            λ l is. (
              λ e.
                  let k = numbered LengthOutOfRange e in
                  answer_cases l (λ wrong _. absurd (wrong is)) (λ above _. above) (λ _ _ _ m. omega (arith, k, m)) (λ o. absurd (o.not_2 k)),
              at_long l is,
            );
        beyond =
            λ l is. (
              λ e.
                  let k = numbered BlocksAboveLimit e in
                  answer_cases l (λ wrong _. absurd (wrong is)) (λ _ m. absurd (omega (arith, k, m))) (λ range p above _. (range, p, above))
                  (λ o. absurd (o.not_22 k)),
              λ h. at_beyond l is h.0 h.2 ∙ asks.passed h.1 (refused BlocksAboveLimit),
            );
        otherwise =
            λ l is not_22.
            limit_cases l n (λ wrong. absurd (wrong is)) (λ _ above. equal (at_long l is above ∙ sym (at_long our_limit ours above)))
            (λ _ range above.
            by_cases asks.decided (λ p. absurd (not_22 (at_beyond l is range above ∙ asks.passed p (refused BlocksAboveLimit))))
            (λ f.
            equal
            (at_beyond l is range above
            ∙ (asks.failed f (refused BlocksAboveLimit) next).0
            ∙ sym (at-within our_limit (ours_allow n range)))))
            (λ allowed. equal (at-within l allowed ∙ sym (at-within our_limit (ours_allow n (allowed_range allowed)))));
        same = λ k l allowed also. equal (at-within k allowed ∙ sym (at-within l also));
      }
