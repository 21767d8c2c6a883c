-- The tests of a limit and a length, with those that an operation asks before 22, stand before any further answer, and all are passed exactly
-- where the limit allows the length and the operation's own tests are passed.
use Rattle.std.specs.Prelude.{Err, Ok, Result}
use mathlib.Core.Logic.Iff
use mathlib.Core.Logic.{◌↔◌}
use mathlib.Core.Path.{◌≡◌, ◌∙◌, ap, refl, sym}
use Prim.Native.Nat.{ℕ, ◌≤◌}
use Rattle.limits.proofs.Limited.{Other, other_number}
use Rattle.limits.proofs.limit.Decided.{allowed_range, beyond_limit, limit_cases, outside_limit, too_long, within-allows, within_limit}
use Rattle.limits.specs.Blocks.{most_bits}
use Rattle.limits.specs.Limit.{Allows, allowance, length_answer, limited}
use Rattle.limits.specs.declared.limit.Allowance.TheVariants.{Beyond, Within}
use Rattle.limits.specs.declared.limit.Allowance.{Allowance}
use Rattle.refusal.proofs.Tests.{Before, refused_done}
use Rattle.refusal.specs.Refusals.{outcome_number, Outcome, done}
use Rattle.refusal.specs.declared.outcome.Refusal.TheVariants.{BlocksAboveLimit}
use Rattle.refusal.specs.declared.outcome.Refusal.{Refusal}

-- tests that stand before a refusal do not end in `Done`
never_done : (F : Outcome → Outcome) → Before F → F (Err BlocksAboveLimit) ≡ done → ⊥
never_done F tests e = by (F done) refl
  where
    by : (o : Outcome) → F done ≡ o → ⊥
    by (Ok _) d = refused_done BlocksAboveLimit (sym (tests.passed (Err BlocksAboveLimit) d) ∙ e)
    by (Err r) d = refused_done r (sym (tests.stands r (Err BlocksAboveLimit) d) ∙ e)

module _ (F : Outcome → Outcome) (tests : Before F) where
  -- whatever the allowance is, its tests stand before a further answer
  allowance-before : (t : Result Allowance Refusal) → Before (limited Err F t)
  allowance-before (Ok Within) = tests
  allowance-before (Ok Beyond) = record { stands = λ r next e. e; passed = λ next e. absurd (never_done F tests e) }
  allowance-before (Err r) = record { stands = λ s next e. e; passed = λ next e. absurd (refused_done r e) }

  allowance_done : (t : Result Allowance Refusal) → limited Err F t done ≡ done → t ≡ Ok Within
  allowance_done (Ok Within) e = refl
  allowance_done (Ok Beyond) e = absurd (never_done F tests e)
  allowance_done (Err r) e = absurd (refused_done r e)

  module _ (l n : ℕ) where
    pub limited-before : Before (limited Err F (allowance l n))
    limited-before = allowance-before (allowance l n)

    pub limited_done : {P : Type 0} → (F done ≡ done) ↔ P → (limited Err F (allowance l n) done ≡ done) ↔ (Allows l n × P)
    limited_done {P = P} passes = (forth, λ p. ap at (within_limit l n p.0) ∙ passes.1 p.1)
      where
        at : Result Allowance Refusal → Outcome
        at t = limited Err F t done

        forth : limited Err F (allowance l n) done ≡ done → Allows l n × P
        forth e =
            let within = allowance_done (allowance l n) e in
            (within-allows l n within, passes.0 (sym (ap at within) ∙ e))

-- An operation without record bytes, whatever its answers are.

-- the refusal of an outcome
abbrev refusal_of : Outcome → Refusal
refusal_of (Ok _) = BlocksAboveLimit
refusal_of (Err r) = r

module _ {A : Type 0} (refused : Refusal → A) (next : A) where
  abbrev answer : Result Allowance Refusal → A
  answer t = limited refused (λ x. x) t next

  refused-at : (t : Result Allowance Refusal) (r : Refusal) → limited Err (λ x. x) t done ≡ Err r → answer t ≡ refused r
  refused-at (Ok Within) r e = absurd (refused_done r (sym e))
  refused-at (Ok Beyond) r e = ap (λ o. refused (refusal_of o)) e
  refused-at (Err s) r e = ap (λ o. refused (refusal_of o)) e

  passed_at : (t : Result Allowance Refusal) → limited Err (λ x. x) t done ≡ done → answer t ≡ next
  passed_at (Ok Within) e = refl
  passed_at (Ok Beyond) e = absurd (refused_done BlocksAboveLimit e)
  passed_at (Err s) e = absurd (refused_done s e)

  module _ (l n : ℕ) where
    -- a refusal of the length's stands whatever follows
    pub length_refused : (r : Refusal) → length_answer l n done ≡ Err r → limited refused (λ x. x) (allowance l n) next ≡ refused r
    unfolding length_answer
    length_refused r e = refused-at (allowance l n) r e

    -- and past it the answer is what follows
    pub length_passed : length_answer l n done ≡ done → limited refused (λ x. x) (allowance l n) next ≡ next
    unfolding length_answer
    length_passed e = passed_at (allowance l n) e

module _ (l n : ℕ) where
  pub length_before : Before (length_answer l n)
  unfolding length_answer
  length_before =
      record { stands = λ r next e. refused-at Err next (allowance l n) r e; passed = λ next e. passed_at Err next (allowance l n) e }

  -- an answer that is none of 2, 21 and 22 comes from what follows
  pub past-length : {Q : Type 0} (next z : Outcome) → Other (outcome_number z) → (next ≡ z) ↔ Q → (length_answer l n next ≡ z) ↔ (Allows l n × Q)
  unfolding length_answer
  past-length {Q = Q} next z other rest = (forth, λ p. ap at (within_limit l n p.0) ∙ rest.1 p.1)
    where
      at : Result Allowance Refusal → Outcome
      at t = limited Err (λ x. x) t next

      forth : limited Err (λ x. x) (allowance l n) next ≡ z → Allows l n × Q
      forth e =
          limit_cases l n (λ wrong. absurd (other.not_21 (ap outcome_number (sym e ∙ ap at (outside_limit l n wrong)))))
          (λ is above. absurd (other.not_2 (ap outcome_number (sym e ∙ ap at (too_long l n is above)))))
          (λ is range above. absurd (other.not_22 (ap outcome_number (sym e ∙ ap at (beyond_limit l n is range above)))))
          (λ allowed. (allowed, rest.0 (sym (ap at (within_limit l n allowed)) ∙ e)))

  pub length_done : (length_answer l n done ≡ done) ↔ (Allows l n × (done ≡ done))
  length_done = past-length done done (other_number 0 refl refl refl) Iff.rfl

  -- a refusal of the length's stands whatever follows, past it the answer is what follows, and the length is in range
  pub length_stands : (r : Refusal) (next : Outcome) → length_answer l n done ≡ Err r → length_answer l n next ≡ Err r
  length_stands = length_before.stands

  pub length_next : (next : Outcome) → length_answer l n done ≡ done → length_answer l n next ≡ next
  length_next = length_before.passed

  pub length_range : length_answer l n done ≡ done → n ≤ most_bits
  length_range e = allowed_range (length_done.0 e).0

  pub length_passes : (next : Outcome) → Allows l n → length_answer l n next ≡ next
  length_passes next allowed = length_before.passed next (length_done.1 (allowed, refl))
