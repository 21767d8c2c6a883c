-- The line that asks for rows of the axle circuit (docs/STEPS.md, "The axle circuit": "four decimal numbers of 1 to 9 digits, without
-- leading zeros, parted by commas, ended by one line feed and nothing after").
use Rattle.std.specs.Prelude.{List, ◌++◌, ◌≡◌, None, Option, Some, ℕ, ◌<◌}
use Rattle.text.specs.Decimal.{field}
use Rattle.text.specs.Field.{after, field_of}
use Rattle.text.specs.Text.{comma}
use Rattle.listing.specs.Line.{line, parse_of}
use Rattle.listing.specs.declared.axle_line.ParsedAxles.{ParsedAxles}
use Rattle.listing.specs.declared.line.Parsed.{Parsed}

-- the line that asks for h rows from row f on, of the circuit of axles from l to u
unfoldable pub axle_line : ℕ → ℕ → ℕ → ℕ → List ℕ
axle_line l u f h = field l comma ++ line u f h

-- a line that is not refused: the numbers have at most 9 digits. `parse_axles_of`, below, finds them: it gives l, u, f and h exactly if
-- `RightAxles s l u f h` (`parse-axles_right` of proofs/AxleLineRight), and `None` exactly if there are none (`parse-axles_wrong`)
abbrev pub RightAxles : List ℕ → ℕ → ℕ → ℕ → ℕ → Type 0
RightAxles s l u f h =
    (l < 1000000000) × (u < 1000000000) × (f < 1000000000) × (h < 1000000000) × (s ≡ axle_line l u f h)

-- the four numbers that a line says
abbrev pub four_numbers : ℕ → ℕ → ℕ → ℕ → Option ParsedAxles
four_numbers l u f h = Some (record { lower = l; upper = u; first = f; many = h })

-- l before three numbers
abbrev pub prefixed : ℕ → Option Parsed → Option ParsedAxles
prefixed l (Some r) = four_numbers l r.leading r.first r.many
prefixed l None = None

unfoldable pub parse_axles_of : List ℕ → Option ParsedAxles
parse_axles_of s = after None (field_of comma s) s λ l _ s₁. prefixed l (parse_of s₁)
