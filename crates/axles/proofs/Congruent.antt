-- The band and the wires of a record are functions of its 504 bits.
use mathlib.Core.Path.{◌≡◌, ◌∙◌, ap₂, sym}
use Prim.Native.Nat.{ℕ, ◌+◌, ◌*◌, ◌<◌}
use native.Mathlib.Omega.{arith}
use Rattle.axles.proofs.Bands.{BandBits}
use Rattle.axles.specs.Band.{tens_place, units_place}
use Rattle.axles.specs.Layout.{axle_wire_of, axles_of, digit, numbers, tens, units}
use Rattle.circuit.specs.Axles.{axle_bits}
use Rattle.circuit.specs.Wires.{wire_count}
use Rattle.circuit.specs.declared.circuits.Circuit.TheVariants.{Record}
use Rattle.encoding.proofs.Bits.{number_cong}
use Rattle.encoding.specs.Sequence.{beside}
use Rattle.record.proofs.exact.Record.{wires_congruent}

module _ (r t : ℕ → ℕ) (same : (k : ℕ) → k < axle_bits → r k ≡ t k) where
  same-digit : (place : ℕ) → place < 63 → digit r place ≡ digit t place
  same-digit place h = number_cong 4 _ _ (λ i l. same (8 * place + 4 + i) (omega arith))

  same-tens : tens r ≡ tens t
  same-tens = same-digit tens_place (omega arith)

  same_units : units r ≡ units t
  same_units = same-digit units_place (omega arith)

  module _ (lower upper : ℕ) where
    pub band_congruent : BandBits lower upper r → BandBits lower upper t
    band_congruent h =
        let axles : axles_of t ≡ axles_of r = omega (arith, same-tens, same_units) in
        record {
          tens_high = λ l b. sym (same (8 * tens_place + l) (omega arith)) ∙ h.tens_high l b;
          units_high = λ l b. sym (same (8 * units_place + l) (omega arith)) ∙ h.units_high l b;
          tens = omega (arith, h.tens, same-tens);
          units = omega (arith, h.units, same_units);
          least = omega (arith, h.least);
          most = omega (arith, h.most);
        }

    pub axle_wires_congruent : axle_wire_of lower upper r ≡ axle_wire_of lower upper t
    unfolding axle_wire_of
    axle_wires_congruent =
        ap₂ (beside (wire_count (Record axle_bits))) (wires_congruent axle_bits r t same) (ap₂ (numbers lower upper) same-tens same_units)
