-- The line of a claim (document 02, request 1: "a line of length (written as for `rows`), comma and digest (64 lower-case
-- hexadecimal digits), ended by one line feed, then the packed bytes to the end"; "a bad line is refusal 1"; request 2: "The
-- length becomes a bit count").
use Rattle.std.specs.Prelude.{cond, ◌&&◌, List, [], ◌∷◌, ◌++◌, ◌≡◌, None, Option, Some, ℕ, ◌+◌, ◌<◌, eqb, drop, get_or, length}
use Rattle.encoding.specs.Bytes.{Bytes}
use Rattle.text.specs.Decimal.{field}
use Rattle.text.specs.Field.{after, field_of}
use Rattle.text.specs.Hex.{all_hex, bytes_of_hex, hex}
use Rattle.text.specs.Text.{comma, line_feed}
use Rattle.claim.specs.declared.line.Parsed.{Parsed}

-- the line of a length l in bits and a digest d
unfoldable pub line : ℕ → List ℕ → List ℕ
line l d = field l comma ++ hex d ++ (line_feed ∷ [])

-- an input whose line is not refused: the length in bits has at most 9 digits, the digest 32 bytes, and p is what stands behind
-- the line
abbrev pub Right : List ℕ → ℕ → List ℕ → List ℕ → Type 0
Right s l d p = (l < 1000000000) × (length d ≡ 32) × Bytes d × (s ≡ line l d ++ p)

-- the digest whose digits begin at place `at`, and what stands behind the line
abbrev pub digest_at : List ℕ → ℕ → List ℕ
digest_at s at = bytes_of_hex 32 s at

abbrev pub packed_from : List ℕ → ℕ → List ℕ
packed_from s at = drop (at + 65) s

-- what a line says that is read: a length in bits, and the place of the digest
abbrev pub claim : ℕ → ℕ → Option Parsed
claim l at = Some (record { bits = l; digest = at })

-- the length in bits, and the place behind its comma, where 64 digits and the line feed must stand
unfoldable pub parse_of : List ℕ → Option Parsed
parse_of s =
    after None (field_of comma s) s λ l at _.
    cond (all_hex 64 s at && eqb (get_or s (at + 64) 0) line_feed) (claim l at) None

-- the length l and the place `at` are read, the digest there is d, and p stands behind the line: exactly if `Right s l d p`
-- and the length's field ends at this place (`parse_right` of proofs/LineRight). `None` is given exactly if there are no
-- such l, d and p (`parse_wrong`)
abbrev pub Reads : List ℕ → ℕ → ℕ → List ℕ → List ℕ → Type 0
Reads s l at d p = (parse_of s ≡ claim l at) × (digest_at s at ≡ d) × (packed_from s at ≡ p)
