-- Acceptance between two bounds is exact (document 02, request 5: "Accepted means what it meant, and also that both bytes are digits and the axles
-- lie within the bounds, ends included. Wires are again unique, between assignments accepted under the same bounds. What a producer writes
-- .. is accepted against the digest it reached"; request 6: "Agreement of wires, and acceptance of a stranger's work, become equality of
-- bytes"). Everything is said of raw bytes, as they are lent, and of the definitions that the contracts of `check`, `produce`, `row` and
-- `digest` cite.
use Rattle.refusal.specs.Refusals.{done}
use Rattle.std.specs.Prelude.{true, List, ◌↔◌, ◌≡◌, ℕ, ◌*◌, ◌<◌, ◌≤◌, length, take}
use Rattle.assignment.specs.Assignment.{wire_bytes}
use Rattle.axles.specs.Band.{InBand}
use Rattle.axles.specs.Check.{axles_check_answer}
use Rattle.axles.specs.Produce.{axle_assignment_of, axles_produce_answer, axles_produce_left}
use Rattle.circuit.specs.Axles.{axle_bits, bounds_in_range}
use Rattle.circuit.specs.Circuit.{row_at}
use Rattle.circuit.specs.Places.{row_count}
use Rattle.circuit.specs.Wires.{wire_count}
use Rattle.circuit.specs.declared.circuits.Circuit.TheVariants.{Axles}
use Rattle.encoding.specs.Bits.{bit_of_bytes}
use Rattle.encoding.specs.Bytes.{Bytes}
use Rattle.forms.specs.Shape.{Shaped}
use Rattle.limits.specs.Handed.{IsRecord}
use Rattle.record.specs.Layout.{record_wire}
use Rattle.sm3.specs.Message.{digest_bytes}

-- accepted between two bounds against a digest: the check of these returns no refusal
abbrev pub IsAcceptedBetween : ℕ → ℕ → List ℕ → List ℕ → Type 0
IsAcceptedBetween lower upper d a = axles_check_answer lower upper d a ≡ done

pub record AxlesExact : Type 0 where
  -- "Wires are again unique, between assignments accepted under the same bounds": those that have the same bytes on the record wires are
  -- the same
  pub unique : (lower upper : ℕ) (d₁ d₂ a₁ a₂ : List ℕ) → Bytes a₁ → Bytes a₂ → IsAcceptedBetween lower upper d₁ a₁ → IsAcceptedBetween lower upper d₂ a₂
      → ((k : ℕ) → k < axle_bits → wire_bytes a₁ (record_wire k) ≡ wire_bytes a₂ (record_wire k)) → a₁ ≡ a₂
  -- accepted exactly when some record of 63 bytes has this digest, lies in the band and has this assignment, byte for byte
  pub exact : (lower upper : ℕ) (d a : List ℕ) → bounds_in_range lower upper ≡ true → Bytes d → Bytes a
      → (IsAcceptedBetween lower upper d a
      ↔ ((r : List ℕ)
      × IsRecord axle_bits r
      × (digest_bytes axle_bits r ≡ d)
      × InBand lower upper r
      × (a ≡ axle_assignment_of lower upper (bit_of_bytes r))))
  -- what the producer leaves is accepted against the record's digest
  pub produced : (lower upper : ℕ) (r out : List ℕ) → bounds_in_range lower upper ≡ true → IsRecord axle_bits r → InBand lower upper r
      → 8 * wire_count (Axles lower upper) ≤ length out
      → IsAcceptedBetween lower upper (digest_bytes axle_bits r)
      (take (8 * wire_count (Axles lower upper)) (axles_produce_left (axles_produce_answer lower upper r (length out)) lower upper r out))
  -- every row has the shape of document 01's rows
  pub shape : (lower upper k : ℕ) → bounds_in_range lower upper ≡ true → k < row_count (Axles lower upper)
      → Shaped (wire_count (Axles lower upper)) (row_at (Axles lower upper) k)
