-- The forms of the rows that make a word (document 01, "Rows"); l is the line among the word's rows.
use Rattle.std.specs.Prelude.{ℕ, ◌+◌, ◌/◌, ◌%◌, cond, None, Some, ◌==◌, nat_lt}
use Rattle.forms.specs.Positions.{wire_at}
use Rattle.forms.specs.declared.form.Addends.{Addends}
use Rattle.forms.specs.declared.form.Bound.{Bound}
use Rattle.forms.specs.declared.form.Digits.{Digits}
use Rattle.forms.specs.declared.form.Form.TheVariants.{Bit, XorOfTwo, XorOfThree, Majority, Choice, Sum, Difference}
use Rattle.forms.specs.declared.form.Form.{Form}
use Rattle.forms.specs.declared.position.WordPosition.{WordPosition}
use Rattle.forms.specs.declared.word_form.OfThree.TheVariants as of
use Rattle.forms.specs.declared.word_form.OfThree.{OfThree}
use Rattle.refusal.specs.declared.numbers.WireNumber.{WireNumber}

-- "Word rows go position by position from the highest bit."

unfoldable pub xor_of_two : WordPosition → WordPosition → WordPosition → ℕ → Form
xor_of_two x y r l = XorOfTwo (wire_at x l) (wire_at y l) (wire_at r l)

unfoldable pub choice_of : WordPosition → WordPosition → WordPosition → WordPosition → ℕ → Form
choice_of x y z r l = Choice (wire_at x l) (wire_at y l) (wire_at z l) (wire_at r l)

-- the equation of a word that is made of three others
abbrev pub of_three : OfThree → (WireNumber → WireNumber → WireNumber → WireNumber → Form)
of_three of.Xor = XorOfThree
of_three of.Majority = Majority

-- "bit row of r, then" the equation, at each position
unfoldable pub paired : (WireNumber → WireNumber → WireNumber → WireNumber → Form) → WordPosition → WordPosition → WordPosition → WordPosition → ℕ → Form
paired equation x y z r l =
    cond (l % 2 == 0) (Bit (wire_at r (l / 2)))
    (equation (wire_at x (l / 2)) (wire_at y (l / 2)) (wire_at z (l / 2)) (wire_at r (l / 2)))

-- "sum: bit rows of 32 result wires and 2 carries, then" the equation
unfoldable pub summed : Addends → ℕ → ℕ → ℕ → Form
summed addends constant r l = cond (nat_lt l 34) (Bit (record { 0 = r + l })) (Sum addends constant (record { 0 = r }))

-- a number's "bit rows and a sum row of value minus bits" (document 02, request 5)
unfoldable pub subtracted : Digits → Bound → ℕ → ℕ → ℕ → Form
subtracted digits bound n r l =
    cond (nat_lt l n) (Bit (record { 0 = r + l })) (Difference digits bound n (record { 0 = r }))

abbrev pub two : WordPosition → WordPosition → Addends
two x y = record { x = x; y = y; more = None }

abbrev pub four : WordPosition → WordPosition → WordPosition → WordPosition → Addends
four x y z t = record { x = x; y = y; more = Some (z, t) }
