-- The line is read as in the definition: the field, the digits, the line feed. The digits lie within, so the sum fits; a byte
-- past the end reads as 0 and is no line feed.
use mathlib.Core.Bool.{cond, false, true}
use mathlib.Core.List.{List}
use mathlib.Core.Path.{◌≡◌, refl, sym, ◌∙◌}
use Prim.Native.Nat.{ℕ, ◌+◌, ◌<◌}
use native.Mathlib.Omega.{arith}
use borrow.Author.Tests.{ne_eqb}
use lib.Dec.{eqb}
use lib.ListN.{get_or, length}
use Rattle.std.specs.Prelude.{None, Some}
use Rattle.text.proofs.HexDigits.{all_hex_each, hex-within}
use Rattle.text.specs.Field.{field_of}
use Rattle.text.specs.Hex.{all_hex}
use Rattle.text.specs.Text.{comma, line_feed}
use Rattle.text.specs.declared.field.Field.{Field}
use Rattle.claim.specs.Line.{claim, parse_of}
use Rattle.claim.proofs.line.parse.Goals as goal

-- the answer, by how far the line can be read
module _ (s : List ℕ) where
  no_length : None ≡ field_of comma s → None ≡ parse_of s
  unfolding parse_of
  no_length e = sym (simp (sym e))

  module _ (l : Field) (read : Some l ≡ field_of comma s) where
    no_digest : all_hex 64 s l.bytes ≡ false → None ≡ parse_of s
    unfolding parse_of
    no_digest e = sym (simp (sym read, e))

    by_end : all_hex 64 s l.bytes ≡ true → (c : ℕ) → get_or s (l.bytes + 64) 0 ≡ c → cond (eqb c line_feed) (claim l.value l.bytes) None ≡ parse_of s
    unfolding parse_of
    by_end digits c e = sym (simp (sym read, digits, e))

    by_other : all_hex 64 s l.bytes ≡ true → (get_or s (l.bytes + 64) 0 ≡ line_feed → ⊥) → None ≡ parse_of s
    by_other digits other = sym (simp (ne_eqb _ _ other)) ∙ by_end digits (get_or s (l.bytes + 64) 0) refl

pub returns-in_err-bits : goal.returns-in_err-bits
returns-in_err-bits c = c.from_residual.ensures ∙ no_length c.args.s.now c.in_err-bits.ensures

pub returns-then-not-all_hex : goal.returns-then-not-all_hex
returns-then-not-all_hex c =
    no_digest c.args.s.now _ c.in_ok-bits.ensures (sym c.all_hex.ensures ∙ c.if-not-all_hex.true)

pub overflow_add-digest : goal.overflow_add-digest
overflow_add-digest c =
    let s = c.args.s.now in
    let at = c.in_ok-bits.bits.bytes in
    let digits = sym c.all_hex.ensures ∙ c.if-not-all_hex.false in
    let last : at + 63 < length s = hex-within s (at + 63) ((all_hex_each 64 s at).0 digits 63 (omega arith)) in
    omega arith

pub returns-in_err-end : goal.returns-in_err-end
returns-in_err-end c =
    let digits = sym c.all_hex.ensures ∙ c.if-not-all_hex.false in
    let byte = rw c.in_err-end.was at (c.get.ensures.lookup.4 (omega arith) 0) in
    c.from_residual-in_err-end.ensures ∙ by_other c.args.s.now _ c.in_ok-bits.ensures digits (λ e. omega (arith, byte, e))

pub returns-then-end-ne10 : goal.returns-then-end-ne10
returns-then-end-ne10 c =
    let digits = sym c.all_hex.ensures ∙ c.if-not-all_hex.false in
    let byte = c.in_ok-end.ensures.lookup.3.1 0 in
    by_other c.args.s.now _ c.in_ok-bits.ensures digits (λ e. c.if-end-ne10.true (byte ∙ e))

pub returns : goal.returns
returns c =
    let digits = sym c.all_hex.ensures ∙ c.if-not-all_hex.false in
    by_end c.args.s.now _ c.in_ok-bits.ensures digits line_feed (sym (c.in_ok-end.ensures.lookup.3.1 0) ∙ c.if-end-ne10.false)
