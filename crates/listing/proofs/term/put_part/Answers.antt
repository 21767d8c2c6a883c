-- The lines of the terms so far are written, each of at most 66 bytes.
use native.Mathlib.Omega.{arith}
use Rattle.forms.specs.Positions.{one}
use Rattle.forms.specs.Rows.{◌·◌}
use Rattle.text.proofs.Put.{put_none, put_then}
use Rattle.listing.proofs.PartLines.{part-next}
use Rattle.listing.specs.Rows.{part_lines}
use Rattle.listing.proofs.term.put_part.Goals as goal

pub loop-term-init : goal.loop-term-init
unfolding part_lines
loop-term-init c = (omega arith, put_none c.args.out.now c.args.at)

pub loop-term-preserved : goal.loop-term-preserved
loop-term-preserved c =
    let inv = c.loop-term.invariant in (
      omega (arith, c.put_term_line-end.ensures.1, inv.0),
      rw (part-next c.args.row.0 c.args.part c.args.terms.now c.loop-term.term-index (0 · one) c.loop-term-test.true) (put_then inv.1 c.put_term_line-end.ensures.0),
    )
