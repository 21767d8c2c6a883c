-- The columns go one after the other.
use native.Mathlib.Omega.{arith}
use lib.ListN.{length-set}
use Rattle.text.proofs.Put.{length_put, put_then, put_two}
use Rattle.text.specs.Text.{comma}
use Rattle.listing.specs.Rows.{term_line}
use Rattle.listing.proofs.term.put_term_line.Goals as goal

pub bounds-out-a-2 : goal.bounds-out-a-2
bounds-out-a-2 c = simp length-set (omega arith)

pub put_field-b-requires : goal.put_field-b-requires
put_field-b-requires c = simp length-set (omega arith)

pub put_coefficient-requires : goal.put_coefficient-requires
put_coefficient-requires c =
    let kept = simp length-set at (length_put c.put_field-b.ensures.0) in
    (omega (arith, kept), c.requires.1)

pub returns : goal.returns
unfolding term_line
returns c =
    let part = c.args.part in (
      put_then
          (put_then (put_then c.put_field-a.ensures.0 (put_two _ c.put_field-a.result part comma))
          c.put_field-b.ensures.0)
          c.put_coefficient.ensures.0,
      omega (arith, c.put_coefficient.ensures.1, c.put_field-b.ensures.1, c.put_field-a.ensures.1),
    )

pub shape_of-out : goal.shape_of-out
shape_of-out c = length_put (returns c).0
