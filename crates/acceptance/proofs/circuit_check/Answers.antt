-- The answers that the check could give. They have room in one number: a wire or a row that is named is below the count, and no circuit that
-- is allowed has that many.
use Rattle.refusal.specs.Refusals.{Outcome, done}
use Rattle.std.specs.Prelude.{Err, None}
use mathlib.Core.Bool.{not}
use mathlib.Core.List.{List}
use mathlib.Core.Path.{refl}
use Prim.Native.Nat.{ℕ, ◌+◌, ◌*◌, ◌<◌}
use native.Mathlib.Omega.{arith}
use lib.Dec.{eqb}
use lib.ListN.{length}
use Rattle.assignment.proofs.EntriesBelow.{limit_holds}
use Rattle.assignment.specs.Assignment.{entry}
use Rattle.circuit.proofs.place.PlaceRange.{most_rows_lem, most_wires_lem}
use Rattle.circuit.specs.Places.{row_count}
use Rattle.circuit.specs.Ranges.{Allowed}
use Rattle.circuit.specs.Wires.{wire_count}
use Rattle.circuit.specs.declared.circuits.Circuit.{Circuit}
use Rattle.encoding.proofs.Lowest.{by_lowest}
use Rattle.encoding.specs.Bits.{bit_of_bytes}
use Rattle.acceptance.specs.Check.{after_rows, circuit_check, same}
use Rattle.refusal.proofs.Small.{Small, bare, done_small, tested}
use Rattle.refusal.specs.declared.outcome.Refusal.TheVariants.{DigestNot32, DigestWire, EntryNotBelowPrime, Unsatisfied, WireZero, WrongLength}
use Rattle.satisfaction.specs.Lowest.{lowest}

-- what holds of all answers that the check could give holds of its answer
pub check-holds : (P : Outcome → Type 0) (C : Circuit) (d a : List ℕ)
    → P (Err DigestNot32) → P (Err WrongLength) → ((w : ℕ) → w < wire_count C → P (Err (EntryNotBelowPrime (record { 0 = w }))))
    → P (Err WireZero) → P (Err DigestWire) → ((k : ℕ) → k < row_count C → P (Err (Unsatisfied (record { 0 = k })))) → P done
    → P (circuit_check C d a)
unfolding circuit_check lowest
check-holds P C d a digest long below one wires rows done =
    tested P (not (eqb (length d) 32)) digest
    (λ _.
    tested P (not (eqb (length a) (8 * wire_count C))) long
    (λ _.
    limit_holds _ _ (wire_count C) a P _ below
    (tested P (not (eqb (entry a 0) 1)) one
    (λ _.
    tested P (not (same 256 (λ k. entry a (1 + k)) (bit_of_bytes d))) wires
    (λ _.
    by_lowest _ _ (λ v. P (after_rows v)) None 0 (row_count C) (λ _. done) (λ k low. rows k (omega (arith, low.below))))))))

pub check_small : (C : Circuit) (d a : List ℕ) → Allowed C → Small (circuit_check C d a)
check_small C d a allowed =
    check-holds Small C d a (bare refl) (bare refl) (λ w l. record { room = omega (arith, l, most_wires_lem C allowed) }) (bare refl) (bare refl)
    (λ k l. record { room = omega (arith, l, most_rows_lem C allowed) }) done_small
