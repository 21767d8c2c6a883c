-- The line is read field by field as in the definition; a field takes no more bytes than there are, so no sum overflows.
use mathlib.Core.List.{List}
use mathlib.Core.Path.{◌≡◌, sym, ap, ◌∙◌}
use Prim.Native.Nat.{ℕ, ◌+◌, ◌≤◌, ◌<◌}
use native.Mathlib.Omega.{arith}
use lib.ListN.{length, drop, length-drop, drop_of_length-le}
use lib.Seq.{drop-cons, drop-drop}
use Rattle.std.specs.Prelude.{None, Some}
use Rattle.text.proofs.AfterField.{field-within}
use Rattle.text.specs.Field.{field_of}
use Rattle.text.specs.Text.{comma, line_feed}
use Rattle.text.specs.declared.field.Field.{Field}
use Rattle.listing.specs.Line.{ended, numbers, parse_of}
use Rattle.listing.proofs.line.parse.Goals as goal

-- the answer, by how far the line can be read
module _ (s : List ℕ) where
  no_leading : None ≡ field_of comma s → None ≡ parse_of s
  unfolding parse_of
  no_leading e = sym (simp (sym e))

  module _ (n : Field) (first : Some n ≡ field_of comma s) where
    no_first : None ≡ field_of comma (drop n.bytes s) → None ≡ parse_of s
    unfolding parse_of
    no_first e = sym (simp (sym first, sym e))

    module _ (f : Field) (second : Some f ≡ field_of comma (drop n.bytes s)) where
      within-two : n.bytes + f.bytes ≤ length s
      within-two =
          omega (
            arith,
            field-within comma s n.value n.bytes (sym first),
            field-within comma (drop n.bytes s) f.value f.bytes (sym second),
            length-drop n.bytes s,
          )

      no_many : None ≡ field_of line_feed (drop (n.bytes + f.bytes) s) → None ≡ parse_of s
      unfolding parse_of
      no_many e = sym (simp (sym first, sym second, drop-drop, sym e))

      module _ (h : Field) (third : Some h ≡ field_of line_feed (drop (n.bytes + f.bytes) s)) where
        within_three : n.bytes + f.bytes + h.bytes ≤ length s
        within_three =
            omega (
              arith,
              within-two,
              field-within line_feed (drop (n.bytes + f.bytes) s) h.value h.bytes (sym third),
              length-drop (n.bytes + f.bytes) s,
            )

        three_read : ended (drop (n.bytes + f.bytes + h.bytes) s) (numbers n.value f.value h.value) ≡ parse_of s
        unfolding parse_of
        three_read = sym (simp (sym first, sym second, drop-drop, sym third))

        more-after : n.bytes + f.bytes + h.bytes < length s → None ≡ parse_of s
        more-after more =
            sym (ap (λ (t : List ℕ). ended t (numbers n.value f.value h.value)) (drop-cons s _ 0 more)) ∙ three_read

        none_after : length s ≤ n.bytes + f.bytes + h.bytes → numbers n.value f.value h.value ≡ parse_of s
        none_after end =
            sym (ap (λ (t : List ℕ). ended t (numbers n.value f.value h.value)) (drop_of_length-le s end)) ∙ three_read

pub returns-in_err-leading : goal.returns-in_err-leading
returns-in_err-leading c = c.from_residual.ensures ∙ no_leading c.args.s.now c.in_err-leading.ensures

pub returns-in_err-first : goal.returns-in_err-first
returns-in_err-first c =
    c.from_residual-in_err-first.ensures ∙ no_first c.args.s.now _ c.in_ok-leading.ensures c.in_err-first.ensures

pub overflow_add-leading : goal.overflow_add-leading
overflow_add-leading c = omega (arith, within-two c.args.s.now _ c.in_ok-leading.ensures _ c.in_ok-first.ensures)

pub returns-in_err-many : goal.returns-in_err-many
returns-in_err-many c =
    c.from_residual-in_err-many.ensures
    ∙ no_many c.args.s.now _ c.in_ok-leading.ensures _ c.in_ok-first.ensures c.in_err-many.ensures

pub overflow_add-leading-2 : goal.overflow_add-leading-2
overflow_add-leading-2 c = omega (arith, within-two c.args.s.now _ c.in_ok-leading.ensures _ c.in_ok-first.ensures)

pub overflow_add-leading-3 : goal.overflow_add-leading-3
overflow_add-leading-3 c =
    omega (arith, within_three c.args.s.now _ c.in_ok-leading.ensures _ c.in_ok-first.ensures _ c.in_ok-many.ensures)

pub returns-then-leading-first : goal.returns-then-leading-first
returns-then-leading-first c =
    more-after c.args.s.now _ c.in_ok-leading.ensures _ c.in_ok-first.ensures _ c.in_ok-many.ensures c.if-leading-first.true

pub returns : goal.returns
returns c =
    none_after c.args.s.now _ c.in_ok-leading.ensures _ c.in_ok-first.ensures _ c.in_ok-many.ensures c.if-leading-first.false
