-- The three are written one after the other.
use Rattle.std.proofs.Common.{◌+◌, arith}
use Rattle.assignment.proofs.Writes.{wrote_then}
use Rattle.assignment.proofs.rounds.put_sums.Goals as goal

pub returns : goal.returns
returns c =
    let w = c.args.w.0 in
    λ u v first second.
    wrote_then (w + 164) (omega arith) (c.put_sum.ensures u first)
    (wrote_then (w + 198) (omega arith) (c.put_sum-2.ensures v second) c.put_word.ensures)
