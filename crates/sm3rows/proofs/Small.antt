-- The operations' answers have room in one number. Most refusals have no value. A row that is given is one of the record's, and no row has
-- over 163 terms; a row or a wire that is named is below the count, and no record that is in range has over 16 blocks.
use Rattle.refusal.specs.Packing.{above}
use Rattle.refusal.specs.Refusals.{Outcome, outcome_values}
use Rattle.std.specs.Prelude.{Err}
use mathlib.Core.Bool.{not}
use mathlib.Core.List.{List}
use mathlib.Core.Path.{refl}
use Prim.Native.Nat.{ℕ, ◌*◌, ◌^◌, ◌<◌}
use native.Mathlib.Omega.{arith}
use borrow.Author.Tests.{leb-false}
use lib.Dec.{leb, lit<, ltb}
use lib.ListN.{length-append}
use Rattle.axles.specs.Band.{in_band}
use Rattle.axles.specs.Check.{axles_check_answer}
use Rattle.axles.specs.Produce.{axles_produce_answer}
use Rattle.axles.specs.RowAnswer.{axles_row_answer}
use Rattle.circuit.proofs.axles.Bounds.{bounds_iff}
use Rattle.circuit.proofs.place.PlaceRange.{most_wires_lem}
use Rattle.circuit.proofs.shape.Shape.{shape}
use Rattle.circuit.specs.Axles.{bounds_in_range}
use Rattle.circuit.specs.Circuit.{row_at}
use Rattle.circuit.specs.GivenRow.{counted, given_row, row_bytes}
use Rattle.circuit.specs.Places.{row_count}
use Rattle.circuit.specs.Ranges.{Allowed}
use Rattle.circuit.specs.Wires.{wire_count}
use Rattle.circuit.specs.declared.circuits.Circuit.TheVariants.{Axles, Record}
use Rattle.circuit.specs.declared.circuits.Circuit.{Circuit}
use Rattle.forms.specs.Rows.{terms}
use Rattle.limits.proofs.handed.Asked.{bytes_holds}
use Rattle.limits.proofs.limit.Decided.{allowed_range, limited-holds}
use Rattle.limits.specs.Handed.{handed_answer, record_bytes_answer}
use Rattle.limits.specs.Limit.{length_answer}
use Rattle.packing.proofs.Answers.{pack-holds, unpack-holds}
use Rattle.packing.specs.Pack.{pack_answer}
use Rattle.packing.specs.Unpack.{unpack_answer}
use Rattle.record.proofs.check.Small as record_check
use Rattle.record.specs.Check.{check_answer}
use Rattle.record.specs.Produce.{produce_answer}
use Rattle.record.specs.RowAnswer.{row_answer}
use Rattle.refusal.proofs.Small.{Small, bare, done_small, room_small, tested}
use Rattle.refusal.proofs.Tests.{not_iff}
use Rattle.acceptance.proofs.circuit_check.Answers as circuit_small
use Rattle.sm3.specs.Digest.{digest_answer}
use Rattle.sm3rows.specs.Small.{SmallRow}

-- the tests of a record as it is handed over
handed_small : (l n : ℕ) (r : List ℕ) (next : Outcome) → Small next → Small (handed_answer l n r next)
unfolding handed_answer
handed_small l n r next small =
    limited-holds Small Err (record_bytes_answer n r) next l n (bytes_holds n r Small (bare refl) (bare refl)) (bare refl) (bare refl) (bare refl)
    (λ _. small)

pub digest_small : (l n : ℕ) (r : List ℕ) (room : ℕ) → above (outcome_values (digest_answer l n r room)) < 2 ^ 56
digest_small l n r room = (handed_small l n r _ (room_small (ltb room 32))).room

pub produce_small : (l n : ℕ) (r : List ℕ) (room : ℕ) → above (outcome_values (produce_answer l n r room)) < 2 ^ 56
produce_small l n r room = (handed_small l n r _ (room_small (ltb room (8 * wire_count (Record n))))).room

pub check_small : (l n : ℕ) (d a : List ℕ) → above (outcome_values (check_answer l n d a)) < 2 ^ 56
check_small l n d a = (record_check.check_small l n d a).room

module _ (C : Circuit) (allowed : Allowed C) (k room : ℕ) where
  counts_small : k < row_count C → SmallRow (counted (row_at C k))
  unfolding counted terms
  counts_small below =
      let few = simp length-append at (shape C allowed k below).few in
      (omega arith, omega arith, omega arith)

  given_small : SmallRow (given_row C k room)
  unfolding given_row
  given_small =
      tested SmallRow (leb (row_count C) k) (lit< tt)
      (λ e. tested SmallRow (ltb room row_bytes) (lit< tt) (λ _. counts_small (leb-false (row_count C) k e)))

pub row_small : (l n k room : ℕ) → SmallRow (row_answer l n k room)
unfolding row_answer
row_small l n k room =
    limited-holds SmallRow Err (λ x. x) _ l n (λ x small. small) (lit< tt) (lit< tt) (lit< tt)
    (λ allowed. given_small (Record n) (allowed_range allowed) k room)

pub pack_small : (l n : ℕ) (a : List ℕ) (room : ℕ) → above (outcome_values (pack_answer l n a room)) < 2 ^ 56
unfolding pack_answer length_answer
pack_small l n a room =
    (limited-holds Small Err (λ x. x) _ l n (λ x small. small) (bare refl) (bare refl) (bare refl)
    (λ allowed.
    let few = most_wires_lem (Record n) (allowed_range allowed) in
    pack-holds Small (wire_count (Record n)) a room (bare refl) (bare refl) (λ w below. record { room = omega (arith, below, few) })
    (λ w below. record { room = omega (arith, below, few) }) done_small)).room

pub unpack_small : (l n : ℕ) (p : List ℕ) (room : ℕ) → above (outcome_values (unpack_answer l n p room)) < 2 ^ 56
unfolding unpack_answer length_answer
unpack_small l n p room =
    (limited-holds Small Err (λ x. x) _ l n (λ x small. small) (bare refl) (bare refl) (bare refl)
    (λ _. unpack-holds Small (wire_count (Record n)) p room (bare refl) (bare refl) (bare refl) done_small)).room

-- Between two bounds.

pub axles_row_small : (lower upper k room : ℕ) → SmallRow (axles_row_answer lower upper k room)
unfolding axles_row_answer
axles_row_small lower upper k room =
    tested SmallRow (not (bounds_in_range lower upper)) (lit< tt)
    (λ e. given_small (Axles lower upper) ((not_iff _ (bounds_iff lower upper)).0 e) k room)

pub axles_produce_small : (lower upper : ℕ) (r : List ℕ) (room : ℕ) → above (outcome_values (axles_produce_answer lower upper r room)) < 2 ^ 56
unfolding axles_produce_answer
axles_produce_small lower upper r room =
    (handed_small _ _ r _
    (tested Small (not (bounds_in_range lower upper)) (bare refl)
    (λ _.
    tested Small (not (in_band lower upper r)) (bare refl)
    (λ _. room_small (ltb room (8 * wire_count (Axles lower upper))))))).room

pub axles_check_small : (lower upper : ℕ) (d a : List ℕ) → above (outcome_values (axles_check_answer lower upper d a)) < 2 ^ 56
unfolding axles_check_answer
axles_check_small lower upper d a =
    (tested Small (not (bounds_in_range lower upper)) (bare refl)
    (λ e. circuit_small.check_small (Axles lower upper) d a ((not_iff _ (bounds_iff lower upper)).0 e))).room
