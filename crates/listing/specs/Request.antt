-- What a line asks for, or why it is refused (document 01, "Refusals in checking order").
use Rattle.std.specs.Prelude.{cond, not, Err, List, [], ◌∷◌, None, Ok, Option, Result, Some, ℕ, ◌+◌, ltb}
use Rattle.circuit.specs.Axles.{bounds_in_range}
use Rattle.circuit.specs.Places.{row_count}
use Rattle.circuit.specs.declared.circuits.Circuit.TheVariants.{Axles, Record}
use Rattle.circuit.specs.declared.circuits.Circuit.{Circuit}
use Rattle.limits.specs.Limit.{allowance, limited, our_limit}
use Rattle.refusal.specs.LineRefusals.{line_refusal_number, line_refusal_values}
use Rattle.refusal.specs.declared.line.LineRefusal.{LineRefusal}
use Rattle.refusal.specs.declared.line.LineRefusal.TheVariants.{BadLine, Refused}
use Rattle.refusal.specs.declared.outcome.Refusal.{Refusal}
use Rattle.refusal.specs.declared.outcome.Refusal.TheVariants.{BoundsOutOfRange, RowOutOfRange}
use Rattle.listing.specs.AxleLine.{parse_axles_of}
use Rattle.listing.specs.Line.{parse_of}
use Rattle.listing.specs.declared.axle_line.ParsedAxles.{ParsedAxles}
use Rattle.listing.specs.declared.line.Parsed.{Parsed}
use Rattle.listing.specs.declared.request.Front.{Front}
use Rattle.listing.specs.declared.request.Front.TheVariants.{Bounds, Length}
use Rattle.listing.specs.declared.request.Rows.{Rows}

-- what a line asks for, or its refusal
abbrev pub Request : Type 0
Request = Result Rows LineRefusal

-- h rows of a circuit from row f on
abbrev pub rows : Circuit → ℕ → ℕ → Rows
rows c f h = record { circuit = c; first = record { 0 = f }; many = h }

-- a refusal of what a line asks for
abbrev pub refused : Refusal → Request
refused r = Err (Refused r)

-- "3. .. (in the program: first row plus how many exceeds the count)": h rows of a circuit from row f on
unfoldable pub within : Circuit → ℕ → ℕ → Request
within c f h = cond (ltb (row_count c) (f + h)) (refused RowOutOfRange) (Ok (rows c f h))

-- "2. The record length is above" 8,127: of a record of n bits. "`rows` and the program for packed assignments use sixteen" blocks (document 02,
-- request 8)
unfoldable pub checked : ℕ → ℕ → ℕ → Request
checked n f h = limited refused (λ answer. answer) (allowance our_limit n) (within (Record n) f h)

-- document 02, request 5: "18, a bound outside 2 to 99 or the lower above the upper": of the circuit of axles from l to u
unfoldable pub checked_axles : ℕ → ℕ → ℕ → ℕ → Request
checked_axles l u f h = cond (not (bounds_in_range l u)) (refused BoundsOutOfRange) (within (Axles l u) f h)

abbrev pub asked : Option Parsed → Request
asked (Some r) = checked r.leading r.first r.many
asked None = Err BadLine

abbrev pub asked_axles : Option ParsedAxles → Request
asked_axles (Some r) = checked_axles r.lower r.upper r.first r.many
asked_axles None = Err BadLine

-- what a line asks for, by what stands at its front
unfoldable pub request_of : Front → List ℕ → Request
request_of Length s = asked (parse_of s)
request_of Bounds s = asked_axles (parse_axles_of s)

-- the paper's number of a refusal, 0 for none: "1. The program's line is not three decimal numbers ..", with bounds four
abbrev pub request_number : Request → ℕ
request_number (Ok q) = 0
request_number (Err r) = line_refusal_number r

-- its values: those of a refusal, which are none (`refused_values` of proofs/Requests), or which rows are asked for
abbrev pub request_values : Request → List ℕ
request_values (Ok q) = q.first.0 ∷ q.many ∷ []
request_values (Err r) = line_refusal_values r
