-- When the check accepts. Its definition is a chain of tests, and an answer about the rows comes only past them all: each test
-- that is passed is a condition that holds, and the rows' own answer decides the rest.
use Rattle.std.specs.Prelude.{Err, Some, None, Option}
use mathlib.Core.Bool.{and-eq-true_iff, true}
use mathlib.Core.List.{List}
use mathlib.Core.Logic.Iff
use mathlib.Core.Logic.{◌↔◌}
use mathlib.Core.Path.{◌≡◌, ap, refl, subst}
use Prim.Native.Nat.{ℕ, zero, suc, ◌+◌, ◌*◌, ◌<◌, ◌≤◌}
use native.Mathlib.Nat.{zero-add}
use native.Mathlib.Numerals.{add-one}
use native.Mathlib.Omega.{arith}
use borrow.Author.Count.{below_more, below_none}
use borrow.Author.Tests.{eq-eqb, eqb-true}
use lib.Dec.{eqb, lit≤}
use lib.ListN.{get_or, length}
use Rattle.assignment.proofs.EntriesBelow.{below_all, limit_past}
use Rattle.assignment.specs.Assignment.{entry}
use Rattle.circuit.specs.Circuit.{row_at}
use Rattle.circuit.specs.Places.{row_count}
use Rattle.circuit.specs.Wires.{wire_count}
use Rattle.circuit.specs.declared.circuits.Circuit.{Circuit}
use Rattle.encoding.specs.Bits.{bit_of_bytes}
use Rattle.field.specs.Field.{p}
use Rattle.forms.proofs.exact.Runs.{Judged, and_given}
use Rattle.forms.specs.Rows.{Satisfied}
use Rattle.acceptance.specs.Check.{after_rows, circuit_check, same}
use Rattle.refusal.proofs.Tests.{equal_iff, not_iff, past}
use Rattle.refusal.specs.Refusals.{outcome_number, outcome_values, Outcome, done}
use Rattle.refusal.specs.declared.numbers.RowNumber.{RowNumber}
use Rattle.refusal.specs.declared.outcome.Refusal.TheVariants.{DigestNot32, DigestWire, Unsatisfied, WireZero, WrongLength}
use Rattle.satisfaction.proofs.Lowest.{lowest_all, lowest_failing_lem}
use Rattle.satisfaction.specs.Lowest.{LowestFailing, lowest}

-- `same` says that the places agree
pub same_iff : (n : ℕ) (f g : ℕ → ℕ) → (same n f g ≡ true) ↔ ((k : ℕ) → k < n → f k ≡ g k)
unfolding same
same_iff zero f g = (λ e. below_none (λ k. f k ≡ g k), λ all. refl)
same_iff (suc n) f g = (
  λ e.
      let both = (and-eq-true_iff (same n f g) (eqb (f n) (g n))).0 e in
      subst (λ m. (k : ℕ) → k < m → f k ≡ g k) (add-one n)
      (below_more (λ k. f k ≡ g k) n ((same_iff n f g).0 both.0) (eqb-true (f n) (g n) both.1)),
  λ all.
      (and-eq-true_iff (same n f g) (eqb (f n) (g n))).1
      ((same_iff n f g).1 (λ k l. all k (omega arith)), eq-eqb (f n) (g n) (all n (omega arith))),
)

-- the row that is named is known by the answer
none_named : (v : Option RowNumber) → after_rows v ≡ done → v ≡ None
none_named None e = refl
none_named (Some k) e = absurd (omega (arith, ap outcome_number e))

row_named : (v : Option RowNumber) (k : RowNumber) → after_rows v ≡ Err (Unsatisfied k) → v ≡ Some k
row_named None k e = absurd (omega (arith, ap outcome_number e))
row_named (Some j) k e = ap (λ o. Some (record { 0 = get_or (outcome_values o) 0 0 })) e

-- the tests before the rows are passed
pub record Passed (C : Circuit) (d a : List ℕ) : Type 0 where
  pub digest-length : length d ≡ 32
  pub assignment_length : length a ≡ 8 * wire_count C
  pub below : (w : ℕ) → w < wire_count C → entry a w < p
  pub one : entry a 0 ≡ 1
  pub digest-wires : (k : ℕ) → k < 256 → entry a (1 + k) ≡ bit_of_bytes d k

-- .. so that the rows may judge the entries
pub judged_entries : {C : Circuit} {d a : List ℕ} → Passed C d a → Judged (entry a)
judged_entries {C} {d} {a} h = record { one = h.one; below = (below_all (wire_count C) a h.assignment_length h.below).each }

-- .. and all rows are satisfied
pub record Accepts (C : Circuit) (d a : List ℕ) : Type 0 where
  pub passed : Passed C d a
  pub satisfied : (k : ℕ) → k < row_count C → Satisfied (entry a) (row_at C k)

module _ (C : Circuit) (d a : List ℕ) where
  abbrev rows_verdict : Option RowNumber
  rows_verdict = lowest (entry a) (row_at C) 0 (row_count C)

  -- an answer that is none of the refusals 5 to 8 and 20
  answer_of_rows : (z : Outcome) → ((m : ℕ) → 5 ≤ m → m ≤ 8 → m ≡ outcome_number z → ⊥) → (20 ≡ outcome_number z → ⊥)
      → (circuit_check C d a ≡ z) ↔ (Passed C d a × (after_rows rows_verdict ≡ z))
  unfolding circuit_check
  answer_of_rows z other not-20 =
      Iff.trans
      (past _ (Err DigestNot32) _ z (equal_iff (length d) 32) (other 5 (lit≤ tt) (lit≤ tt))
      (past _ (Err WrongLength) _ z (equal_iff (length a) (8 * wire_count C)) (other 6 (lit≤ tt) (lit≤ tt))
      (Iff.trans (limit_past _ _ (wire_count C) a _ z (λ w e. not-20 (ap outcome_number e))) (and_given Iff.rfl (λ below.
      past _ (Err WireZero) _ z (equal_iff (entry a 0) 1) (other 7 (lit≤ tt) (lit≤ tt))
      (past _ (Err DigestWire) _ z (not_iff _ (same_iff 256 (λ k. entry a (1 + k)) (bit_of_bytes d))) (other 8 (lit≤ tt) (lit≤ tt))
      Iff.rfl)))))) (
        λ (digest, (length, (below, (one, (wires, rows))))). (
          record { digest-length = digest; assignment_length = length; below = below; one = one; digest-wires = wires },
          rows,
        ),
        λ (h, rows). (h.digest-length, (h.assignment_length, (h.below, (h.one, (h.digest-wires, rows))))),
      )

  pub accepted_iff : (circuit_check C d a ≡ done) ↔ Accepts C d a
  accepted_iff =
      Iff.trans (answer_of_rows done (λ m l h e. omega arith) (λ e. omega arith)) (
        λ (h, rows).
            record {
              passed = h;
              satisfied = λ k l. (lowest_all (entry a) (row_at C) 0 (row_count C)).0 (none_named rows_verdict rows) k (omega arith) (omega arith);
            },
        λ h. (
          h.passed,
          ap after_rows ((lowest_all (entry a) (row_at C) 0 (row_count C)).1 (λ k l b. h.satisfied k (omega arith))),
        ),
      )

  -- the row that is named fails, and every row below it holds
  pub unsatisfied_lowest : (k : RowNumber) → circuit_check C d a ≡ Err (Unsatisfied k)
      → LowestFailing (entry a) (row_at C) 0 (row_count C) k.0
  unsatisfied_lowest k e =
      subst (λ m. LowestFailing (entry a) (row_at C) 0 m k.0) (zero-add (row_count C))
      (lowest_failing_lem (entry a) (row_at C) 0 (row_count C) k
      (row_named rows_verdict k ((answer_of_rows (Err (Unsatisfied k)) (λ m l h e. omega arith) (λ e. omega arith)).0 e).1))
