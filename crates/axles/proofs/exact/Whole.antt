-- All rows hold exactly where the record that is read off lies in the band and all wires are its own. All rows but the appended ones are those of the
-- record's circuit, which hold exactly where its wires are the record's; and then the digit bytes stand on their wires.
use mathlib.Core.Logic.{◌↔◌}
use mathlib.Core.Path.{◌≡◌, ◌∙◌, ap, subst}
use Prim.Native.Nat.{ℕ, ◌+◌, ◌*◌, ◌<◌, ◌≤◌}
use native.Mathlib.Omega.{arith}
use Rattle.axles.proofs.Bands.{BandBits}
use Rattle.axles.proofs.Counts.{axle_wires, record_wires}
use Rattle.axles.proofs.exact.Appended.{appended-run}
use Rattle.axles.specs.Band.{tens_place}
use Rattle.axles.specs.Layout.{appended, axle_wire_of}
use Rattle.circuit.proofs.exact.Frame.{rows_apart}
use Rattle.circuit.proofs.place.PlaceRange.{message-blocks}
use Rattle.circuit.specs.Axles.{axle_bits, axle_form, tens_byte, tens_left}
use Rattle.circuit.specs.Circuit.{form_at, form_of, message_form}
use Rattle.circuit.specs.Places.{row_count}
use Rattle.circuit.specs.Wires.{wire_count}
use Rattle.circuit.specs.declared.circuits.Circuit.TheVariants.{Axles, Record}
use Rattle.forms.proofs.exact.Parts.{agree_beside}
use Rattle.forms.proofs.exact.Runs.{Agree, Holds, Judged}
use Rattle.record.proofs.exact.Record.{read_off, record_wire_lt, wire_of_record}
use Rattle.record.proofs.exact.Whole.{circuit}
use Rattle.record.specs.Layout.{record_wire, wire_of}

-- the wires of the record, and those that are appended
pub wires_apart : (lower upper : ℕ) (a r : ℕ → ℕ) → Agree a 0 (wire_count (Axles lower upper)) (axle_wire_of lower upper r)
    ↔ (Agree a 0 (wire_count (Record axle_bits)) (wire_of axle_bits r) × Agree a tens_left 22 (appended lower upper r))
unfolding axle_wire_of
wires_apart lower upper a r =
    let n : ℕ = wire_count (Record axle_bits) in
    let all : n + 22 ≡ wire_count (Axles lower upper) = omega (arith, record_wires, axle_wires lower upper) in
    let place : 0 + n ≡ tens_left = omega (arith, record_wires) in
    subst
    (λ m. Agree a 0 m (axle_wire_of lower upper r) ↔ (Agree a 0 n (wire_of axle_bits r) × Agree a tens_left 22 (appended lower upper r)))
    all
    (subst (λ w. Agree a 0 (n + 22) (axle_wire_of lower upper r) ↔ (Agree a 0 n (wire_of axle_bits r) × Agree a w 22 (appended lower upper r))) place
    (agree_beside a 0 n 22 (wire_of axle_bits r) (appended lower upper r)))

module _ (lower upper : ℕ) (a : ℕ → ℕ) where
  -- where the record's wires are its own, its digit bytes are read off their wires
  digits-read : Agree a 0 (wire_count (Record axle_bits)) (wire_of axle_bits (read_off a))
      → (i : ℕ) → i < 16 → a (tens_byte + i) ≡ read_off a (8 * tens_place + i)
  unfolding record_wire
  digits-read wires i l =
      let k : ℕ = 8 * tens_place + i in
      let place : tens_byte + i ≡ 0 + record_wire k = omega arith in
      ap a place ∙ wires (record_wire k) (record_wire_lt axle_bits k (omega arith)) ∙ wire_of_record axle_bits (read_off a) k (omega arith)

  -- the rows that are not appended are the record's
  record_rows : Holds a (row_count (Axles lower upper)) (form_at (Axles lower upper))
      ↔ (Holds a (row_count (Record axle_bits)) (form_at (Record axle_bits)) × Holds a 34 (axle_form lower upper))
  unfolding form_of message_form
  record_rows = (
    λ h.
        let apart = (rows_apart (Axles lower upper) (message-blocks axle_bits) a).0 h in
        ((rows_apart (Record axle_bits) (message-blocks axle_bits) a).1 (apart.0, (apart.1.0, (apart.1.1.0, λ k l. absurd (omega arith)))), apart.1.1.1),
    λ (rows, more).
        let apart = (rows_apart (Record axle_bits) (message-blocks axle_bits) a).0 rows in
        (rows_apart (Axles lower upper) (message-blocks axle_bits) a).1 (apart.0, (apart.1.0, (apart.1.1.0, more))),
  )

  pub axle_circuit : Judged a → lower ≤ 99 → upper ≤ 99
      → (Holds a (row_count (Axles lower upper)) (form_at (Axles lower upper))
      ↔ (BandBits lower upper (read_off a) × Agree a 0 (wire_count (Axles lower upper)) (axle_wire_of lower upper (read_off a))))
  axle_circuit J hl hu =
      let more : Agree a 0 (wire_count (Record axle_bits)) (wire_of axle_bits (read_off a))
      → (Holds a 34 (axle_form lower upper) ↔ (BandBits lower upper (read_off a) × Agree a tens_left 22 (appended lower upper (read_off a)))) =
      λ wires. appended-run a J (read_off a) (λ k. omega arith) (digits-read wires) lower upper hl hu in (
        λ h.
            let rows = record_rows.0 h in
            let wires = (circuit axle_bits a J).0 rows.0 in
            let band = (more wires).0 rows.1 in
            (band.0, (wires_apart lower upper a (read_off a)).1 (wires, band.1)),
        λ (band, agree).
            let parts = (wires_apart lower upper a (read_off a)).0 agree in
            record_rows.1 ((circuit axle_bits a J).1 parts.0, (more parts.0).1 (band, parts.1)),
      )
