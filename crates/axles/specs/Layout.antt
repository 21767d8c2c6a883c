-- The wires of a record with axles, worked out from the record and the bounds alone (document 02, request 5). The record is 504 bits r;
-- place w of `axle_wire_of lower upper r` is the value of wire w.
use Rattle.std.specs.Prelude.{ℕ, ◌+◌, ◌-◌, ◌*◌}
use Rattle.axles.specs.Band.{tens_place, units_place}
use Rattle.circuit.specs.Axles.{axle_bits}
use Rattle.circuit.specs.Wires.{wire_count}
use Rattle.circuit.specs.declared.circuits.Circuit.TheVariants.{Record}
use Rattle.encoding.specs.Bits.{number}
use Rattle.encoding.specs.Sequence.{beside}
use Rattle.forms.specs.WordWires.{number_wires}
use Rattle.record.specs.Layout.{wire_of}

-- "A digit is its byte's low half."
abbrev pub digit : (ℕ → ℕ) → ℕ → ℕ
digit r place = number 4 (λ i. r (8 * place + 4 + i))

abbrev pub tens : (ℕ → ℕ) → ℕ
tens r = digit r tens_place

abbrev pub units : (ℕ → ℕ) → ℕ
units r = digit r units_place

abbrev pub axles_of : (ℕ → ℕ) → ℕ
axles_of r = 10 * tens r + units r

-- "append 22 wires: 9 minus the tens digit, 9 minus the units digit (4 bits each), axles minus the lower bound, upper bound minus axles
-- (7 bits each), highest bit first"
unfoldable pub numbers : ℕ → ℕ → ℕ → ℕ → ℕ → ℕ
numbers lower upper t u =
    beside 4 (number_wires 4 (9 - t))
    (beside 4 (number_wires 4 (9 - u))
    (beside 7 (number_wires 7 (10 * t + u - lower)) (number_wires 7 (upper - (10 * t + u)))))

abbrev pub appended : ℕ → ℕ → (ℕ → ℕ) → ℕ → ℕ
appended lower upper r = numbers lower upper (tens r) (units r)

-- the wires of the record, then those that are appended
unfoldable pub axle_wire_of : ℕ → ℕ → (ℕ → ℕ) → ℕ → ℕ
axle_wire_of lower upper r = beside (wire_count (Record axle_bits)) (wire_of axle_bits r) (appended lower upper r)
