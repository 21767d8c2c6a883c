-- The tests tell the part that the term belongs to.
use borrow.Author.Tests.{le-ltb, lt-ltb}
use Rattle.satisfaction.proofs.sums.add_term.Goals as goal

pub returns-then-t-counts : goal.returns-then-t-counts
returns-then-t-counts c = simp (lt-ltb _ _ c.if-t-counts.true, c.sum.ensures)

pub returns-then-t-counts-2 : goal.returns-then-t-counts-2
returns-then-t-counts-2 c = simp (le-ltb _ _ c.if-t-counts.false, lt-ltb _ _ c.if-t-counts-2.true, c.sum-then-t-counts-2.ensures)

pub returns : goal.returns
returns c = simp (le-ltb _ _ c.if-t-counts.false, le-ltb _ _ c.if-t-counts-2.false, c.sum-2.ensures)
