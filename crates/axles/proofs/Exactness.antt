-- Acceptance between two bounds is exact, an instance of the law of exact acceptance. The witness is a record of 63 bytes in the band: its wires are
-- the layout's, its digest is its SM3, and it is read off the record wires and packed into bytes. The rows hold exactly where the record that
-- is read off lies in the band and the wires are its own.
use Rattle.refusal.specs.Refusals.{done}
use mathlib.Core.Bool.{true}
use mathlib.Core.List.{List}
use mathlib.Core.Logic.Iff
use mathlib.Core.Path.{◌≡◌, ◌∙◌, subst, sym}
use Prim.Native.Nat.{ℕ, ◌+◌, ◌*◌, ◌<◌, ◌≤◌}
use native.Mathlib.Omega.{arith}
use borrow.Author.Tests.{le-ltb}
use lib.ListN.{length}
use Rattle.acceptance.proofs.Exact as law
use Rattle.acceptance.proofs.Exact.{Layout}
use Rattle.axles.proofs.Accepted.{accepted_iff}
use Rattle.axles.proofs.Bands.{band_bits, band_iff}
use Rattle.axles.proofs.Congruent.{axle_wires_congruent, band_congruent}
use Rattle.axles.proofs.Counts.{record_wires}
use Rattle.axles.proofs.Limited.{partner_allows}
use Rattle.axles.proofs.exact.Appended.{number-wire_lt}
use Rattle.axles.proofs.exact.Whole.{axle_circuit, wires_apart}
use Rattle.axles.specs.Band.{InBand}
use Rattle.axles.specs.Check.{axles_check_answer}
use Rattle.axles.specs.Exact.{AxlesExact}
use Rattle.axles.specs.Layout.{axle_wire_of, numbers}
use Rattle.axles.specs.Produce.{axle_assignment_of, axles_produce_answer}
use Rattle.block.proofs.exact.WireBits.{beside-bits}
use Rattle.circuit.proofs.axles.Bounds.{bounds_iff}
use Rattle.circuit.proofs.shape.Shape.{shape}
use Rattle.circuit.specs.Axles.{axle_bits, bounds_in_range}
use Rattle.circuit.specs.Ranges.{Allowed}
use Rattle.circuit.specs.Wires.{wire_count}
use Rattle.circuit.specs.declared.circuits.Circuit.TheVariants.{Axles, Record}
use Rattle.encoding.proofs.Bits.{bit_of_bytes_lt}
use Rattle.encoding.proofs.Sequence.{beside_first}
use Rattle.encoding.specs.Bits.{bit_of_bytes}
use Rattle.encoding.specs.Packed.{packed_bytes}
use Rattle.forms.proofs.exact.Runs.{Agree}
use Rattle.limits.proofs.handed.Asked.{handed_passes}
use Rattle.limits.specs.Handed.{IsRecord}
use Rattle.limits.specs.Limit.{partner_limit}
use Rattle.record.proofs.Demand3.{record_digest, record_one}
use Rattle.record.proofs.DigestBits.{digest_bytes_lem, length-digest}
use Rattle.record.proofs.exact.Record.{packed_off, packed_record, read_off_lem, read_off}
use Rattle.record.proofs.exact.WireBits.{wire_lt}
use Rattle.record.specs.Layout.{record_wire, wire_of}
use Rattle.sm3.specs.Message.{digest_bytes}

module _ (lower upper : ℕ) where
  -- the wires before the appended ones are the record's
  front : (r : ℕ → ℕ) (w : ℕ) → w < 45569 → axle_wire_of lower upper r w ≡ wire_of axle_bits r w
  unfolding axle_wire_of
  front r w l = beside_first (wire_count (Record axle_bits)) _ _ w (omega (arith, record_wires))

  axle_wire_lt : (r : List ℕ) (w : ℕ) → axle_wire_of lower upper (bit_of_bytes r) w < 2
  unfolding axle_wire_of numbers
  axle_wire_lt r =
      beside-bits (wire_count (Record axle_bits)) _ _ (wire_lt axle_bits (bit_of_bytes r) (λ k l. bit_of_bytes_lt r k))
      (beside-bits 4 _ _ (number-wire_lt 4 _) (beside-bits 4 _ _ (number-wire_lt 4 _) (beside-bits 7 _ _ (number-wire_lt 7 _) (number-wire_lt 7 _))))

  axles_layout : Allowed (Axles lower upper)
      → Layout (Axles lower upper) (λ r. IsRecord axle_bits r × InBand lower upper r) (λ r. axle_wire_of lower upper (bit_of_bytes r)) (digest_bytes axle_bits)
      (λ a. packed_bytes axle_bits (read_off a)) axle_bits record_wire
  axles_layout bounds =
      record {
        bits = λ r valid. axle_wire_lt r;
        one = λ r. front (bit_of_bytes r) 0 (omega arith) ∙ record_one axle_bits (bit_of_bytes r);
        digest-length = length-digest axle_bits;
        digest_bytes_lem = digest_bytes_lem axle_bits;
        digest-wires = λ r k l. front (bit_of_bytes r) (1 + k) (omega arith) ∙ record_digest axle_bits r k l;
        read_congruent = packed_off axle_bits;
        sound =
            λ a J holds.
            let (band, agree) = (axle_circuit lower upper a J (omega (arith, bounds)) (omega (arith, bounds))).0 holds in
            let (is, same) = packed_record axle_bits a in (
              (is, (band_bits lower upper _ is.bytes).1 (band_congruent _ _ same lower upper band)),
              subst (Agree a 0 (wire_count (Axles lower upper))) (axle_wires_congruent _ _ same lower upper) agree,
            );
        complete =
            λ a J r valid agree.
            let same : (k : ℕ) → k < axle_bits → bit_of_bytes r k ≡ read_off a k =
            λ k l.
            sym
            (read_off_lem axle_bits a (bit_of_bytes r) (λ k l. bit_of_bytes_lt r k) ((wires_apart lower upper a (bit_of_bytes r)).0 agree).0 k l) in
            (axle_circuit lower upper a J (omega (arith, bounds)) (omega (arith, bounds))).1 (
              band_congruent _ _ same lower upper ((band_bits lower upper r valid.0.bytes).0 valid.1),
              subst (Agree a 0 (wire_count (Axles lower upper))) (axle_wires_congruent _ _ same lower upper) agree,
            );
      }

-- a record in the band is not refused where there is room
not_refused : (lower upper : ℕ) (r : List ℕ) (room : ℕ) → bounds_in_range lower upper ≡ true → IsRecord axle_bits r → InBand lower upper r
    → 8 * wire_count (Axles lower upper) ≤ room → axles_produce_answer lower upper r room ≡ done
unfolding axles_produce_answer
not_refused lower upper r room bounds is band fits =
    handed_passes axle_bits r partner_limit _ partner_allows is
    ∙ rw (bounds, (band_iff lower upper r).1 band, le-ltb room (8 * wire_count (Axles lower upper)) fits)

pub axles_exact : AxlesExact
unfolding axle_assignment_of
axles_exact =
    record {
      unique =
          λ lower upper d₁ d₂ a₁ a₂ b₁ b₂ h₁ h₂.
          let (allowed, accepts) = (accepted_iff lower upper d₁ a₁).0 h₁ in
          law.unique (axles_layout lower upper allowed) accepts ((accepted_iff lower upper d₂ a₂).0 h₂).1 b₁ b₂;
      exact =
          λ lower upper d a bounds digest bytes.
          let allowed = (bounds_iff lower upper).0 bounds in
          Iff.trans (law.exact (axles_layout lower upper allowed) (axles_check_answer lower upper) (accepted_iff lower upper) allowed d a digest bytes) (
            λ (r, valid, same, whole). (r, valid.0, same, valid.1, whole),
            λ (r, is, same, band, whole). (r, (is, band), same, whole),
          );
      produced =
          λ lower upper r out bounds is band room.
          let allowed = (bounds_iff lower upper).0 bounds in
          law.produced (axles_layout lower upper allowed) (axles_check_answer lower upper) (accepted_iff lower upper) allowed r (is, band) out _
          (not_refused lower upper r (length out) bounds is band room);
      shape = λ lower upper k bounds below. shape (Axles lower upper) ((bounds_iff lower upper).0 bounds) k below;
    }
