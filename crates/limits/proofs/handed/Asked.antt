-- What is asked of a record as it is handed over, test by test: the tests are passed exactly by a length that the limit allows and a record that
-- is packed into its bytes with no spare bit set, and they stand before any further answer.
use Rattle.refusal.specs.declared.outcome.Refusal.{Refusal}
use Rattle.std.specs.Prelude.{Err, Ok}
use mathlib.Core.Bool.{cond, not}
use mathlib.Core.List.{List}
use mathlib.Core.Logic.Iff
use mathlib.Core.Logic.{◌↔◌, by_cases}
use mathlib.Core.Path.{◌≡◌, refl}
use Prim.Native.Nat.{ℕ, ◌≤◌}
use native.Mathlib.Decide.{ℕ_discrete}
use native.Mathlib.Omega.{arith}
use borrow.Author.Tests.{eq-eqb, ne_eqb}
use lib.Dec.{eqb}
use lib.ListN.{length}
use Rattle.encoding.specs.Packed.{packed_length, spare_bits}
use Rattle.limits.proofs.Limited.{Asks, Other, other_number}
use Rattle.limits.proofs.limit.Decided.{allowed_range}
use Rattle.limits.proofs.limit.Tests.{limited-before, limited_done}
use Rattle.limits.specs.Blocks.{most_bits}
use Rattle.limits.specs.Handed.{IsRecord, handed_answer, record_bytes_answer}
use Rattle.limits.specs.Limit.{Allows, blocks_answer, limited}
use Rattle.limits.specs.declared.limit.Allowance.{Allowance}
use Rattle.limits.specs.declared.limit.Allowance.TheVariants.{Beyond, Within}
use Rattle.refusal.proofs.Small.{tested}
use Rattle.refusal.proofs.Tests.{Before, equal_iff, no_test, one_test, past}
use Rattle.refusal.specs.Refusals.{outcome_number, Outcome, done}
use Rattle.refusal.specs.declared.outcome.Refusal.TheVariants.{BitAfterRecord, WrongRecordLength, BlocksAboveLimit}

module _ (n : ℕ) (bytes : List ℕ) where
  -- 13, and 14 after it
  bytes_before : Before (record_bytes_answer n bytes)
  unfolding record_bytes_answer
  bytes_before =
      one_test (not (eqb (length bytes) (packed_length n))) WrongRecordLength
      (λ next. cond (not (eqb (spare_bits n bytes) 0)) (Err BitAfterRecord) next)
      (one_test (not (eqb (spare_bits n bytes) 0)) BitAfterRecord (λ next. next) no_test)

  -- a refusal of the bytes is the answer, whatever the limit says of the length
  pub bytes_refused : (a : Allowance) (r : Refusal) → record_bytes_answer n bytes done ≡ Err r
      → limited Err (record_bytes_answer n bytes) (Ok a) done ≡ Err r
  bytes_refused Within r e = e
  bytes_refused Beyond r e = bytes_before.stands r (Err BlocksAboveLimit) e

  -- and past it the answer is what the limit says
  pub bytes_passed : (a : Allowance) → record_bytes_answer n bytes done ≡ done
      → limited Err (record_bytes_answer n bytes) (Ok a) done ≡ blocks_answer a
  bytes_passed Within e = e
  bytes_passed Beyond e = bytes_before.passed (Err BlocksAboveLimit) e

  bytes_done : (record_bytes_answer n bytes done ≡ done) ↔ ((length bytes ≡ packed_length n) × ((spare_bits n bytes ≡ 0) × (done ≡ done)))
  unfolding record_bytes_answer
  bytes_done =
      past _ (Err WrongRecordLength) _ done (equal_iff (length bytes) (packed_length n)) (λ e. omega arith)
      (past _ (Err BitAfterRecord) _ done (equal_iff (spare_bits n bytes) 0) (λ e. omega arith) Iff.rfl)

  -- a record whose bytes are not refused has as many as its bits take
  pub bytes_size : record_bytes_answer n bytes done ≡ done → length bytes ≡ packed_length n
  bytes_size e = (bytes_done.0 e).0

  -- what holds of both refusals and of what follows holds of the answer
  pub bytes_holds : (P : Outcome → Type 0) → P (Err WrongRecordLength) → P (Err BitAfterRecord) → (next : Outcome) → P next
      → P (record_bytes_answer n bytes next)
  unfolding record_bytes_answer
  bytes_holds P size spare next last =
      tested P (not (eqb (length bytes) (packed_length n))) size (λ _. tested P (not (eqb (spare_bits n bytes) 0)) spare (λ _. last))

  -- 13 and 14 are none of 2, 21 and 22, and do not depend on what follows
  bytes_failed : ((length bytes ≡ packed_length n) × (spare_bits n bytes ≡ 0) → ⊥) → (x y : Outcome)
      → (record_bytes_answer n bytes x ≡ record_bytes_answer n bytes y) × Other (outcome_number (record_bytes_answer n bytes x))
  unfolding record_bytes_answer
  bytes_failed wrong x y =
      by_cases (ℕ_discrete (length bytes) (packed_length n))
      (λ size.
      rw (eq-eqb (length bytes) (packed_length n) size, ne_eqb (spare_bits n bytes) 0 (λ e. wrong (size, e)))
      (refl, other_number 14 refl refl refl))
      (λ other. rw (ne_eqb (length bytes) (packed_length n) other) (refl, other_number 13 refl refl refl))

  pub asks_bytes : Asks outcome_number ((length bytes ≡ packed_length n) × (spare_bits n bytes ≡ 0)) (record_bytes_answer n bytes)
  unfolding record_bytes_answer
  asks_bytes =
      record {
        passed = λ p x. rw (eq-eqb (length bytes) (packed_length n) p.0, eq-eqb (spare_bits n bytes) 0 p.1);
        failed = bytes_failed;
        decided =
            by_cases (ℕ_discrete (length bytes) (packed_length n))
            (λ size. by_cases (ℕ_discrete (spare_bits n bytes) 0) (λ spare. yes (size, spare)) (λ set. no (λ p. set p.1)))
            (λ wrong. no (λ p. wrong p.0));
      }

  module _ (l : ℕ) where
    pub handed_tests : Before (handed_answer l n bytes)
    unfolding handed_answer
    handed_tests = limited-before (record_bytes_answer n bytes) bytes_before l n

    pub handed_done : (handed_answer l n bytes done ≡ done)
        ↔ (Allows l n × ((length bytes ≡ packed_length n) × ((spare_bits n bytes ≡ 0) × (done ≡ done))))
    unfolding handed_answer
    handed_done = limited_done (record_bytes_answer n bytes) bytes_before l n bytes_done

    -- a refusal of them stands whatever follows, and past them the answer is what follows
    pub handed_stands : (r : Refusal) (next : Outcome) → handed_answer l n bytes done ≡ Err r → handed_answer l n bytes next ≡ Err r
    handed_stands = handed_tests.stands

    pub handed_passed : (next : Outcome) → handed_answer l n bytes done ≡ done → handed_answer l n bytes next ≡ next
    handed_passed = handed_tests.passed

    -- a record that passes them is in range, and in as many bytes as its bits take
    pub handed_range : handed_answer l n bytes done ≡ done → (n ≤ most_bits) × (length bytes ≡ packed_length n)
    handed_range e =
        let p = handed_done.0 e in
        (allowed_range p.0, p.1.0)

    -- a record that the limit allows passes them
    pub handed_passes : (next : Outcome) → Allows l n → IsRecord n bytes → handed_answer l n bytes next ≡ next
    handed_passes next allowed is = handed_tests.passed next (handed_done.1 (allowed, (is.size, (is.spare, refl))))
