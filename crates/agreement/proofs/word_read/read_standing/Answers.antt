-- Before turn i none of the first i entries is above what was seen, and the number is what they write, where all entries are bits. Where
-- nothing above 1 was seen they are.
use Rattle.std.proofs.Common.{refl, arith}
use Rattle.assignment.proofs.EntriesBelow.{none_seen, one_seen}
use Rattle.agreement.proofs.word_read.BitByBit.{next_bit, no_bit}
use Rattle.agreement.proofs.word_read.read_standing.Goals as goal

pub loop-i-init : goal.loop-i-init
loop-i-init c = (omega arith, none_seen _ _, λ bits. no_bit _ _)

pub loop-i-preserved : goal.loop-i-preserved
loop-i-preserved c = (
  omega arith,
  one_seen c.read-n.ensures c.loop-i.invariant.1,
  next_bit c.loop-i-test.true c.read-n.ensures refl refl c.loop-i.invariant.2,
)
