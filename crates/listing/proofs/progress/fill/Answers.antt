-- The buffer holds the lines of the rows below k.
use native.Mathlib.Omega.{arith}
use Rattle.circuit.proofs.place.PlaceRange.{most_rows_lem}
use Rattle.text.proofs.Put.{length_put}
use Rattle.listing.proofs.Chunks.{filling_more, filling_none, handed_all, handed_full}
use Rattle.listing.proofs.progress.fill.Goals as goal

pub overflow_add-end : goal.overflow_add-end
overflow_add-end c = omega (arith, c.requires.1.1, most_rows_lem c.args.rows.circuit c.requires.1.0)

pub loop-k-init : goal.loop-k-init
loop-k-init c = filling_none _ _ c.args.rows.first.0 c.args.rows.many c.args.out.now

pub returns-then-out-at : goal.returns-then-out-at
returns-then-out-at c =
    let filling = c.loop-k.invariant in
    handed_full c.args.listing c.args.rows filling c.loop-k-test.true
    (omega (arith, c.if-out-at.true, c.room_of.ensures, length_put filling.put))

pub put_lines-at-requires : goal.put_lines-at-requires
put_lines-at-requires c =
    let filling = c.loop-k.invariant in
    let pre = c.requires in (
      omega (arith, c.if-out-at.false, c.room_of.ensures, filling.fits, length_put filling.put),
      pre.1.0,
      omega (arith, c.loop-k-test.true, pre.1.1),
    )

pub loop-k-preserved : goal.loop-k-preserved
loop-k-preserved c =
    let filling = c.loop-k.invariant in
    let is = c.room_of.ensures in
    filling_more _ _ _ _ filling c.loop-k-test.true
    (omega (arith, c.if-out-at.false, is, length_put filling.put))
    c.put_lines-at.ensures.0
    (omega (arith, c.put_lines-at.ensures.1, c.if-out-at.false, is, length_put filling.put, filling.fits))

pub returns : goal.returns
returns c = handed_all c.args.listing c.args.rows c.loop-k.invariant c.loop-k-test.false
