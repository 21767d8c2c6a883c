-- Where what was seen of all entries is below the limit, each of them is.
use Rattle.std.proofs.Common.{sym}
use Rattle.assignment.proofs.EntriesBelow.{seen_below}
use Rattle.assignment.proofs.bounded.lowest_in_run.Goals as goal

pub returns-then-seen_from-limit : goal.returns-then-seen_from-limit
returns-then-seen_from-limit c = sym (seen_below _ _ _ _ _ c.if-seen_from-limit.true c.seen_from.ensures)
