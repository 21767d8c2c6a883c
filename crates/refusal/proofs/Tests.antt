-- Answers that are chains of tests, each of which refuses. A test that is passed is a condition that holds; an answer that is none
-- of the tests' own comes from what follows them. Where the tests stand before any further answer, a refusal of theirs stands
-- whatever follows, and past them the answer is the further one.
use Rattle.std.specs.Prelude.{Err}
use mathlib.Core.Bool.{Bool, cond, false, not, true, true≢false}
use mathlib.Core.Logic.Iff
use mathlib.Core.Logic.{◌↔◌}
use mathlib.Core.Path.{◌≡◌, ap, refl, sym}
use Prim.Native.Nat.{ℕ, ◌%◌}
use borrow.Author.Tests.{eq-eqb, eqb-true, not-false}
use lib.Dec.{eqb}
use Rattle.refusal.proofs.Injective.{refused}
use Rattle.refusal.specs.Packing.{packed_outcome}
use Rattle.refusal.specs.Refusals.{outcome_number, Outcome, done}
use Rattle.refusal.specs.declared.outcome.Refusal.{Refusal}

-- a test that refuses where P does not hold
pub not_iff : (t : Bool) {P : Type 0} → (t ≡ true) ↔ P → (not t ≡ false) ↔ P
not_iff t h = Iff.trans (not-false t, ap not) h

pub equal_iff : (x y : ℕ) → (not (eqb x y) ≡ false) ↔ (x ≡ y)
equal_iff x y = not_iff (eqb x y) (eqb-true x y, eq-eqb x y)

-- another answer than the test's own comes from what follows, past the test
pub past : (t : Bool) {P Q : Type 0} (x y z : Outcome) → (t ≡ false) ↔ P → (outcome_number x ≡ outcome_number z → ⊥)
    → (y ≡ z) ↔ Q → (cond t x y ≡ z) ↔ (P × Q)
past true x y z test other next = (λ e. absurd (other (ap outcome_number e)), λ h. absurd (true≢false (test.1 h.0)))
past false x y z test other next = (λ e. (test.0 refl, next.0 e), λ h. next.1 h.1)

-- a refusal is not `Done`
pub refused_done : (r : Refusal) → Err r ≡ done → ⊥
refused_done r e = refused r (ap (λ o. packed_outcome o % 256) e)

-- tests that stand before any further answer
pub record Before (F : Outcome → Outcome) : Type 0 where
  pub stands : (r : Refusal) (next : Outcome) → F done ≡ Err r → F next ≡ Err r
  pub passed : (next : Outcome) → F done ≡ done → F next ≡ next

pub no_test : Before (λ next. next)
no_test = record { stands = λ r next e. absurd (refused_done r (sym e)); passed = λ next e. refl }

pub one_test : (t : Bool) (x : Refusal) (F : Outcome → Outcome) → Before F → Before (λ next. cond t (Err x) (F next))
one_test true x F rest = record { stands = λ r next e. e; passed = λ next e. absurd (refused_done x e) }
one_test false x F rest = rest
