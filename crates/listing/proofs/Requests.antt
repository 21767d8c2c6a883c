-- What a line asks for, refusal by refusal. Rows that are asked for exist, by the last test.
use mathlib.Core.Bool.{not}
use mathlib.Core.List.{List, []}
use mathlib.Core.Path.{◌≡◌, refl, ap}
use Prim.Native.Nat.{ℕ, ◌+◌, ◌<◌}
use native.Mathlib.Omega.{arith}
use borrow.Author.Tests.{ltb-false, not-false}
use lib.Dec.{ltb}
use lib.ListN.{length}
use Rattle.circuit.proofs.axles.Bounds.{bounds_iff}
use Rattle.circuit.specs.Axles.{bounds_in_range}
use Rattle.circuit.specs.Places.{row_count}
use Rattle.circuit.specs.Ranges.{Allowed}
use Rattle.circuit.specs.declared.circuits.Circuit.TheVariants.{Axles, Record}
use Rattle.circuit.specs.declared.circuits.Circuit.{Circuit}
use Rattle.limits.proofs.limit.Decided.{allowed_range, limited-holds}
use Rattle.limits.specs.Limit.{our_limit}
use Rattle.refusal.proofs.Small.{tested}
use Rattle.refusal.specs.LineRefusals.{line_refusal_values}
use Rattle.refusal.specs.declared.line.LineRefusal.{LineRefusal}
use Rattle.refusal.specs.declared.line.LineRefusal.TheVariants.{BadLine}
use Rattle.std.specs.Prelude.{Err, None, Ok, Option, Some}
use Rattle.listing.specs.AxleLine.{parse_axles_of}
use Rattle.listing.specs.Line.{parse_of}
use Rattle.listing.specs.Progress.{Possible, RowsExist}
use Rattle.listing.specs.Request.{Request, asked, asked_axles, checked, checked_axles, refused, request_number, request_of, request_values, rows, within}
use Rattle.listing.specs.declared.axle_line.ParsedAxles.{ParsedAxles}
use Rattle.listing.specs.declared.line.Parsed.{Parsed}
use Rattle.listing.specs.declared.progress.Progress.TheVariants.{Begun}
use Rattle.listing.specs.declared.request.Front.{Front}
use Rattle.listing.specs.declared.request.Front.TheVariants.{Bounds, Length}
use Rattle.listing.specs.declared.request.Rows.{Rows}
use Rattle.listing.proofs.AxleLineRight.{long_axles_wrong}
use Rattle.listing.proofs.LineRight.{long_wrong}

pub long_bad : (t : Front) (s : List ℕ) → 40 < length s → request_of t s ≡ Err BadLine
unfolding request_of
long_bad Length s long = ap asked (long_wrong s (omega arith))
long_bad Bounds s long = ap asked_axles (long_axles_wrong s long)

-- what holds of a bad line, of the refusals without values and of all rows that exist holds of what a line asks for
module _ (P : Request → Type 0) (bare : (r : LineRefusal) → line_refusal_values r ≡ [] → P (Err r))
    (exist : (q : Rows) → RowsExist q → P (Ok q)) where
  bad : P (Err BadLine)
  bad = bare BadLine refl

  each_within : (C : Circuit) (f h : ℕ) → Allowed C → P (within C f h)
  unfolding within
  each_within C f h allowed =
      tested P (ltb (row_count C) (f + h)) (bare _ refl) (λ e. exist (rows C f h) (allowed, ltb-false (row_count C) (f + h) e))

  each_asked : (r : Option Parsed) → P (asked r)
  unfolding checked
  each_asked None = bad
  each_asked (Some r) =
      limited-holds P refused (λ x. x) _ our_limit r.leading (λ x holds. holds) (bare _ refl) (bare _ refl) (bare _ refl)
      (λ allowed. each_within (Record r.leading) r.first r.many (allowed_range allowed))

  each_asked_axles : (r : Option ParsedAxles) → P (asked_axles r)
  unfolding checked_axles
  each_asked_axles None = bad
  each_asked_axles (Some r) =
      tested P (not (bounds_in_range r.lower r.upper)) (bare _ refl)
      (λ e.
      each_within (Axles r.lower r.upper) r.first r.many
      ((bounds_iff r.lower r.upper).0 (not-false (bounds_in_range r.lower r.upper) e)))

  each_request : (t : Front) (s : List ℕ) → P (request_of t s)
  unfolding request_of
  each_request Length s = each_asked (parse_of s)
  each_request Bounds s = each_asked_axles (parse_axles_of s)

pub begin_possible : (t : Front) (s : List ℕ) → Possible (Begun (request_of t s))
begin_possible = each_request (λ q. Possible (Begun q)) (λ r none. tt) (λ q exist. exist)

-- a refusal has no values, so that its number is all there is to print
pub refused_values : (t : Front) (s : List ℕ) → (request_number (request_of t s) ≡ 0 → ⊥) → request_values (request_of t s) ≡ []
refused_values =
    each_request (λ q. (request_number q ≡ 0 → ⊥) → request_values q ≡ []) (λ r none h. none)
    (λ q exist some. absurd (some refl))
