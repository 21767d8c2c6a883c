-- Before each turn all entries below wire w are below the limit, so the answer is that of the wires from w on.
use Rattle.std.proofs.Common.{sym, ◌∙◌, arith}
use Rattle.assignment.proofs.EntriesBelow.{asked_below, asked_end, asked_not_below}
use Rattle.assignment.proofs.bounded.lowest_asked.Goals as goal

pub returns-then-limit-read : goal.returns-then-limit-read
returns-then-limit-read c =
    sym (c.loop-w.invariant.1 ∙ asked_not_below _ _ _ _ (omega arith) (omega (arith, c.read.ensures)))

pub loop-w-preserved : goal.loop-w-preserved
loop-w-preserved c =
    (omega arith, c.loop-w.invariant.1 ∙ asked_below _ _ _ _ (omega arith) (omega (arith, c.read.ensures)))

pub returns : goal.returns
returns c = sym (c.loop-w.invariant.1 ∙ asked_end _ _ _ _ (omega arith))
