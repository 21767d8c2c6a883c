-- Each turn adds a term at the end, unless it is a zero one.
use Rattle.std.proofs.Common.{arith}
use Rattle.forms.proofs.part.Kept.{one_more}
use Rattle.forms.proofs.part.Part.set.Goals as goal

pub loop-term-preserved : goal.loop-term-preserved
loop-term-preserved g c =
    let inv = c.loop-term.invariant in
    (one_more _ _ _ c.loop-term-test.true inv.0 c.push.ensures.end, omega (arith, c.push.ensures.room, inv.1))
