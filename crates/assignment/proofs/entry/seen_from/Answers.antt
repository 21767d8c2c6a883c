-- Before turn i none of the first i entries is above what was seen.
use Rattle.std.proofs.Common.{arith}
use Rattle.assignment.proofs.EntriesBelow.{one_seen}
use Rattle.assignment.proofs.entry.seen_from.Goals as goal

pub loop-i-preserved : goal.loop-i-preserved
loop-i-preserved c =
    (omega arith, one_seen c.read-seen.ensures c.loop-i.invariant.1)
