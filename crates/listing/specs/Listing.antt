-- What `rows` and `steps`, `axle_rows` and `axle_steps` print (document 01, "What `rows` prints"; docs/STEPS.md).
use Rattle.std.specs.Prelude.{Err, List, [], ◌++◌, Ok, ℕ, zero, suc, ◌+◌}
use Rattle.circuit.specs.declared.circuits.Circuit.{Circuit}
use Rattle.refusal.specs.LineRefusals.{line_refusal_number}
use Rattle.text.specs.Refused.{refused}
use Rattle.text.specs.Text.{ascii}
use Rattle.listing.specs.Request.{Request, request_of}
use Rattle.listing.specs.Rows.{row_lines}
use Rattle.listing.specs.Steps.{step_line}
use Rattle.listing.specs.declared.progress.Listing.{Listing}
use Rattle.listing.specs.declared.progress.Listing.TheVariants as listing
use Rattle.listing.specs.declared.request.Front.{Front}

-- the first line
abbrev pub header : Listing → List ℕ
header listing.Rows = ascii "row,part,wire,coefficient\n"
header listing.Steps = ascii "row,block,step,index,bit,form\n"

-- the lines of row k of a circuit
abbrev pub lines : Listing → Circuit → ℕ → List ℕ
lines listing.Rows c k = row_lines c k
lines listing.Steps c k = step_line c k

-- the lines of m rows from row k on, where `of` gives those of a row
unfoldable pub lines_from : (ℕ → List ℕ) → ℕ → ℕ → List ℕ
lines_from of k zero = []
lines_from of k (suc m) = lines_from of k m ++ of (k + m)

-- all that is printed for a request: the first line and the lines of the rows, or the refusal
abbrev pub printed : Listing → Request → List ℕ
printed l (Ok q) = header l ++ lines_from (lines l q.circuit) q.first.0 q.many
printed l (Err r) = refused (line_refusal_number r)

-- what a program prints for the bytes s of standard input, with t at the front of its line
unfoldable pub prints : Listing → Front → List ℕ → List ℕ
prints l t s = printed l (request_of t s)
