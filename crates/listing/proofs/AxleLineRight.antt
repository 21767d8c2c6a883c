-- Refusal 1 of a line for the axle circuit. It is read exactly if it is the writing of four numbers below 1,000,000,000: its first
-- field is, and so are the three numbers behind it.
use mathlib.Core.List.{List, ◌++◌}
use mathlib.Core.Logic.{◌↔◌}
use mathlib.Core.Path.{◌≡◌, refl, sym, ap, ap₂, ◌∙◌}
use Prim.Native.Nat.{ℕ, ◌<◌}
use native.Mathlib.Omega.{arith}
use lib.ListN.{length, length-append}
use Rattle.text.proofs.AfterField.{goes_on, length-field, past}
use Rattle.text.specs.Decimal.{field}
use Rattle.text.specs.Text.{comma}
use Rattle.std.proofs.lemmas.Option.{none-some, same_Some}
use Rattle.std.specs.Prelude.{None, Option, Some}
use Rattle.listing.specs.AxleLine.{RightAxles, axle_line, four_numbers, parse_axles_of, prefixed}
use Rattle.listing.specs.Line.{line, numbers, parse_of}
use Rattle.listing.specs.declared.axle_line.ParsedAxles.{ParsedAxles}
use Rattle.listing.specs.declared.line.Parsed.{Parsed}
use Rattle.listing.proofs.LineRight.{length-line, parse_right}

never : {l u f h : ℕ} → None ≡ four_numbers l u f h → ⊥
never e = none-some _ e

-- four numbers are a first one and three that were read behind it
parted : (v : ℕ) (r : Option Parsed) (l u f h : ℕ) → prefixed v r ≡ four_numbers l u f h → (v ≡ l) × (r ≡ numbers u f h)
parted v (Some r) l u f h e =
    let read = same_Some _ _ e in
    let first : v ≡ l = ap (λ (r : ParsedAxles). r.lower) read in
    (first, ap (λ (r : ParsedAxles). numbers r.upper r.first r.many) read)
parted v None l u f h e = absurd (never e)

pub parse-axles_right : (s : List ℕ) (l u f h : ℕ) → (parse_axles_of s ≡ four_numbers l u f h) ↔ RightAxles s l u f h
unfolding parse_axles_of axle_line
parse-axles_right s l u f h = (
  λ e.
      let first = past None comma _ s (four_numbers l u f h) never e in
      let same = parted first.v (parse_of first.begins.rest) l u f h first.on in
      let right = (parse_right first.begins.rest u f h).0 same.1 in (
        rw same.0 at first.begins.below,
        right.0,
        right.1,
        right.2,
        first.begins.is ∙ ap₂ (λ (v : ℕ) (t : List ℕ). field v comma ++ t) same.0 right.3,
      ),
  λ given.
      ap parse_axles_of given.4
      ∙ goes_on None comma _ (omega arith) l given.0 (line u f h)
      ∙ ap (prefixed l) ((parse_right (line u f h) u f h).1 (given.1, given.2, given.3, refl)),
)

-- .. and is refused otherwise
pub parse-axles_wrong : (s : List ℕ) → (parse_axles_of s ≡ None) ↔ ((l u f h : ℕ) → RightAxles s l u f h → ⊥)
parse-axles_wrong s = (λ bad l u f h right. never (sym bad ∙ (parse-axles_right s l u f h).1 right), by (parse_axles_of s) refl)
  where
    by : (r : Option ParsedAxles) → parse_axles_of s ≡ r → ((l u f h : ℕ) → RightAxles s l u f h → ⊥) → parse_axles_of s ≡ None
    by (Some r) read none = absurd (none r.lower r.upper r.first r.many ((parse-axles_right s _ _ _ _).0 read))
    by None read none = read

-- A right line has at most 40 bytes.
pub long_axles_wrong : (s : List ℕ) → 40 < length s → parse_axles_of s ≡ None
unfolding axle_line
long_axles_wrong s long =
    (parse-axles_wrong s).1 λ l u f h right.
    omega (
      arith,
      ap length right.4,
      length-append (field l comma) (line u f h),
      length-field l comma right.0,
      length-line u f h right.1 right.2 right.3,
    )
