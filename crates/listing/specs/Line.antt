-- The line that asks for rows (document 01, "Refusals in checking order": "1. The program's line is not three decimal
-- numbers of 1 to 9 digits, without leading zeros, parted by commas, ended by one line feed and nothing after").
use Rattle.std.specs.Prelude.{List, [], ◌∷◌, ◌++◌, ◌≡◌, None, Option, Some, ℕ, ◌<◌}
use Rattle.text.specs.Decimal.{field}
use Rattle.text.specs.Field.{after, field_of}
use Rattle.text.specs.Text.{comma, line_feed}
use Rattle.listing.specs.declared.line.Parsed.{Parsed}

-- the line that asks for h rows from row f on, of a record of n bits; with an upper bound for n it ends the line of the axle circuit
-- (specs/AxleLine)
unfoldable pub line : ℕ → ℕ → ℕ → List ℕ
line n f h = field n comma ++ field f comma ++ field h line_feed

-- a line that is not refused: the numbers have at most 9 digits. `parse_of`, below, finds them: it gives n, f and h exactly
-- if `Right s n f h` (`parse_right` of proofs/LineRight), and `None` exactly if there are none (`parse_wrong`)
abbrev pub Right : List ℕ → ℕ → ℕ → ℕ → Type 0
Right s n f h = (n < 1000000000) × (f < 1000000000) × (h < 1000000000) × (s ≡ line n f h)

-- the three numbers that a line says
abbrev pub numbers : ℕ → ℕ → ℕ → Option Parsed
numbers n f h = Some (record { leading = n; first = f; many = h })

abbrev pub ended : List ℕ → Option Parsed → Option Parsed
ended [] r = r
ended (c ∷ s) r = None

unfoldable pub parse_of : List ℕ → Option Parsed
parse_of s =
    after None (field_of comma s) s λ n _ s₁.
    after None (field_of comma s₁) s₁ λ f _ s₂.
    after None (field_of line_feed s₂) s₂ λ h _ s₃.
    ended s₃ (numbers n f h)
