-- The parts go one after the other; a row has at most 163 terms, each of a line of at most 66 bytes.
use mathlib.Core.Path.{ap, subst, sym}
use native.Mathlib.Omega.{arith}
use Prim.Native.Nat.{◌<◌}
use lib.ListN.{length}
use Rattle.circuit.proofs.given_row.GivenRows.{parts_below, parts_few}
use Rattle.field.specs.Field.{p}
use Rattle.forms.specs.Shape.{All}
use Rattle.forms.specs.declared.form.Term.{Term}
use Rattle.text.proofs.Put.{length_put, put_then}
use Rattle.listing.specs.Rows.{row_lines}
use Rattle.listing.proofs.term.put_row.Goals as goal

pub put_part-a-requires : goal.put_part-a-requires
put_part-a-requires c =
    let few = parts_few _ c.requires.1 _ c.requires.2 _ c.row_terms.ensures in
    let below = parts_below _ c.requires.1 _ c.requires.2 _ c.row_terms.ensures in
    (omega (arith, few, ap length c.as_slice.ensures, c.requires.0), subst (All (λ (u : Term). u.residue < p)) (sym c.as_slice.ensures) below.0)

pub put_part-b-requires : goal.put_part-b-requires
put_part-b-requires c =
    let few = parts_few _ c.requires.1 _ c.requires.2 _ c.row_terms.ensures in
    let below = parts_below _ c.requires.1 _ c.requires.2 _ c.row_terms.ensures in (
      omega (arith, few, ap length c.as_slice.ensures, ap length c.as_slice-2.ensures, c.requires.0, c.put_part-a.ensures.1, length_put c.put_part-a.ensures.0),
      subst (All (λ (u : Term). u.residue < p)) (sym c.as_slice-2.ensures) below.1,
    )

pub put_part-requires : goal.put_part-requires
put_part-requires c =
    let few = parts_few _ c.requires.1 _ c.requires.2 _ c.row_terms.ensures in
    let below = parts_below _ c.requires.1 _ c.requires.2 _ c.row_terms.ensures in (
      omega (arith, few, ap length c.as_slice.ensures, ap length c.as_slice-2.ensures, ap length c.as_slice-3.ensures, c.requires.0, c.put_part-a.ensures.1, c.put_part-b.ensures.1, length_put c.put_part-a.ensures.0, length_put c.put_part-b.ensures.0),
      subst (All (λ (u : Term). u.residue < p)) (sym c.as_slice-3.ensures) below.2,
    )

pub returns : goal.returns
unfolding row_lines
returns c =
    let is = c.row_terms.ensures in
    let few = parts_few _ c.requires.1 _ c.requires.2 _ is in (
      rw (← ap (λ t. t.a) is, ← ap (λ t. t.b) is, ← ap (λ t. t.c) is)
          (put_then (put_then (rw c.as_slice.ensures at c.put_part-a.ensures.0) (rw c.as_slice-2.ensures at c.put_part-b.ensures.0))
          (rw c.as_slice-3.ensures at c.put_part.ensures.0)),
      omega (arith, few, ap length c.as_slice.ensures, ap length c.as_slice-2.ensures, ap length c.as_slice-3.ensures, c.put_part.ensures.1, c.put_part-b.ensures.1, c.put_part-a.ensures.1),
    )
