-- What the circuit of axles between two bounds appends to a record's (document 02, request 5).
use Rattle.std.specs.Prelude.{Bool, ◌&&◌, ℕ, ◌+◌, ◌*◌, leb, None, Some}
use Rattle.block.specs.Wires.{wires_per_block}
use Rattle.circuit.specs.Frame.{first_block}
use Rattle.encoding.specs.Sequence.{beside}
use Rattle.forms.specs.WordForms.{subtracted}
use Rattle.forms.specs.WordWires.{number_wires}
use Rattle.forms.specs.declared.form.Bound.TheVariants.{Lower, Upper}
use Rattle.forms.specs.declared.form.Digits.{Digits}
use Rattle.forms.specs.declared.form.Form.TheVariants.{Fixed}
use Rattle.forms.specs.declared.form.Form.{Form}

-- "For a record of a passage's length": 63 bytes, of two blocks
abbrev pub axle_bits : ℕ
axle_bits = 504

-- "with bounds from 2 to 99", the lower not "above the upper"
unfoldable pub bounds_in_range : ℕ → ℕ → Bool
bounds_in_range lower upper = leb 2 lower && (leb lower upper && leb upper 99)

-- the first wires of the digit bytes, 17 and 18
abbrev pub tens_byte : ℕ
tens_byte = first_block + 8 * 17

abbrev pub units_byte : ℕ
units_byte = first_block + 8 * 18

-- "append 22 wires: 9 minus the tens digit, 9 minus the units digit (4 bits each), axles minus the lower bound, upper bound minus axles
-- (7 bits each)": their first wires, behind two blocks
abbrev pub tens_left : ℕ
tens_left = first_block + wires_per_block * 2

abbrev pub units_left : ℕ
units_left = tens_left + 4

abbrev pub above_lower : ℕ
above_lower = units_left + 4

abbrev pub below_upper : ℕ
below_upper = above_lower + 7

-- "A digit is its byte's low half."
abbrev pub digit_of : ℕ → Digits
digit_of byte = record { units = record { 0 = byte + 4 }; tens = None }

abbrev pub axles : Digits
axles = record { units = record { 0 = units_byte + 4 }; tens = Some (record { 0 = tens_byte + 4 }) }

-- "fixed rows holding the high half of both digit bytes, tens first, at 3"
unfoldable pub high_half : ℕ → ℕ → Form
high_half byte l = Fixed (record { 0 = byte + l }) (number_wires 4 3 l)

-- "Append 34 rows: fixed rows .., then for each of the four numbers its bit rows and a sum row of value minus bits."
unfoldable pub axle_form : ℕ → ℕ → ℕ → Form
axle_form lower upper =
    beside 4 (high_half tens_byte)
    (beside 4 (high_half units_byte)
    (beside 5 (subtracted (digit_of tens_byte) (Upper 9) 4 tens_left)
    (beside 5 (subtracted (digit_of units_byte) (Upper 9) 4 units_left)
    (beside 8 (subtracted axles (Lower lower) 7 above_lower)
    (subtracted axles (Upper upper) 7 below_upper)))))
