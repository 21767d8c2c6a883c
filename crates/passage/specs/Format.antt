-- The form of a passage line (document 02, request 3: "A passage is one line of 63 bytes, without line feed or quoting: lane (3
-- digits, from 001), time (10 digits, seconds since 1970 UTC), class (1 to 9), axles (2 digits, from 02), plate (10 places, ..), blind
-- (32 lower-case hexadecimal digits), parted by commas").
use Rattle.std.specs.Prelude.{Bool, cond, not, ◌&&◌, ◌||◌, List, ℕ, zero, suc, ◌+◌, ◌-◌, ◌*◌, eqb, leb, ltb, drop, get_or, take}
use Rattle.passage.specs.declared.format.Kind.TheVariants.{Digit, Class, PlateFirst, PlateNext, Hex, Comma}
use Rattle.passage.specs.declared.format.Kind.{Kind}
use Rattle.passage.specs.declared.places.Field.{Field}
use Rattle.text.specs.Decimal.{is_digit, is_digit_or}
use Rattle.text.specs.Hex.{is_hex}
use Rattle.text.specs.Text.{comma, hyphen}

-- "lane (3 digits, from 001)"
abbrev pub lane : Field
lane = record { first = 0; many = 3 }

-- "time (10 digits, seconds since 1970 UTC)"
abbrev pub time : Field
time = record { first = 4; many = 10 }

-- "class (1 to 9)"
abbrev pub class : Field
class = record { first = 15; many = 1 }

-- "axles (2 digits, from 02)"
abbrev pub axles : Field
axles = record { first = 17; many = 2 }

-- "plate (10 places, ..)"
abbrev pub plate : Field
plate = record { first = 20; many = 10 }

-- "blind (32 lower-case hexadecimal digits)"
abbrev pub blind : Field
blind = record { first = 31; many = 32 }

-- "one line of 63 bytes"
abbrev pub line_length : ℕ
line_length = 63

-- place k is one of the field's
abbrev pub within : Field → ℕ → Bool
within f k = leb f.first k && ltb k (f.first + f.many)

-- the kind of each place: the fields' places, "parted by commas"
unfoldable pub kind_at : ℕ → Kind
kind_at k =
    cond (within lane k) Digit
    (cond (within time k) Digit
    (cond (within class k) Class
    (cond (within axles k) Digit
    (cond (eqb k plate.first) PlateFirst
    (cond (within plate k) PlateNext
    (cond (within blind k) Hex Comma))))))

-- "A to Z and 0 to 9"
unfoldable pub is_plate_byte : ℕ → Bool
is_plate_byte c = is_digit_or 65 90 c

-- "filled up with `-`: .. after a `-` only `-` is allowed": c may come after b
unfoldable pub follows : ℕ → ℕ → Bool
follows b c = eqb c hyphen || (not (eqb b hyphen) && is_plate_byte c)

-- what a byte c may be at a place of each kind, b the byte before it
unfoldable pub allows : Kind → ℕ → ℕ → Bool
allows Digit b c = is_digit c
-- "1 to 9"
allows Class b c = not (eqb c 48) && is_digit c
-- "the first place allows no `-`"
allows PlateFirst b c = is_plate_byte c
allows PlateNext b c = follows b c
-- "lower-case hexadecimal digits"
allows Hex b c = is_hex c
allows Comma b c = eqb c comma

-- whether the byte at place k of s may stand at a place of this kind
abbrev pub fits : Kind → List ℕ → ℕ → Bool
fits kind s k = allows kind (get_or s (k - 1) 0) (get_or s k 0)

-- .. and at its own place of a line
abbrev pub allowed_at : List ℕ → ℕ → Bool
allowed_at s k = fits (kind_at k) s k

-- the number that n digits of s from place `at` on write
unfoldable pub number_from : List ℕ → ℕ → ℕ → ℕ
number_from s at zero = 0
number_from s at (suc n) = 10 * number_from s at n + (get_or s (at + n) 0 - 48)

-- a field of a line as a number
abbrev pub number_in : Field → List ℕ → ℕ
number_in f s = number_from s f.first f.many

-- .. and as "[its] bytes in the line"
abbrev pub bytes_in : Field → List ℕ → List ℕ
bytes_in f s = take f.many (drop f.first s)
