-- The first field is read, and then three numbers from what stands behind it.
use mathlib.Core.List.{List}
use mathlib.Core.Path.{◌≡◌, sym, ap, ◌∙◌}
use Prim.Native.Nat.{ℕ, ◌-◌}
use native.Mathlib.Omega.{arith}
use lib.ListN.{drop, length, length-drop, take}
use lib.Seq.{take_all}
use Rattle.std.specs.Prelude.{None, Option, Some}
use Rattle.text.proofs.AfterField.{field-within}
use Rattle.text.specs.Field.{field_of}
use Rattle.text.specs.Text.{comma}
use Rattle.text.specs.declared.field.Field.{Field}
use Rattle.listing.specs.AxleLine.{parse_axles_of, prefixed}
use Rattle.listing.specs.Line.{parse_of}
use Rattle.listing.specs.declared.line.Parsed.{Parsed}
use Rattle.listing.proofs.axle_line.parse_axles.Goals as goal

no_lower : (s : List ℕ) → None ≡ field_of comma s → None ≡ parse_axles_of s
unfolding parse_axles_of
no_lower s e = sym (simp (sym e))

-- what stands behind the first field, as a part of the line
behind :
    (s : List ℕ) (l : Field) (r : Option Parsed)
    → Some l ≡ field_of comma s
    → r ≡ parse_of (take (length s - l.bytes) (drop l.bytes s))
    → prefixed l.value r ≡ parse_axles_of s
unfolding parse_axles_of
behind s l r e others =
    let all = take_all (length s - l.bytes) (drop l.bytes s) (omega (arith, length-drop l.bytes s)) in
    ap (prefixed l.value) (others ∙ ap parse_of all) ∙ sym (simp (sym e))

pub returns-in_err-lower : goal.returns-in_err-lower
returns-in_err-lower c = c.from_residual.ensures ∙ no_lower c.args.s.now c.in_err-lower.ensures

pub slice_bounds-parse-count : goal.slice_bounds-parse-count
slice_bounds-parse-count c = field-within _ c.args.s.now _ _ (sym c.in_ok-lower.ensures)

pub slice_bounds-parse-start : goal.slice_bounds-parse-start
slice_bounds-parse-start c = field-within _ c.args.s.now _ _ (sym c.in_ok-lower.ensures)

pub returns-in_err-others : goal.returns-in_err-others
returns-in_err-others c =
    c.from_residual-in_err-others.ensures ∙ behind c.args.s.now _ _ c.in_ok-lower.ensures c.in_err-others.ensures

pub returns : goal.returns
returns c = behind c.args.s.now _ _ c.in_ok-lower.ensures c.in_ok-others.ensures
