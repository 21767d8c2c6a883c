-- The four are written one after the other.
use Rattle.std.proofs.Common.{◌+◌, refl, arith}
use Rattle.assignment.proofs.Writes.{wrote_then}
use Rattle.assignment.proofs.rounds.put_summands.Goals as goal

pub returns : goal.returns
returns c =
    let w = c.args.w.0 in
    λ u sum.
    wrote_then (w + 34) refl (c.put_sum.ensures u sum)
    (wrote_then (w + 66) (omega arith) c.put_word.ensures
    (wrote_then (w + 98) (omega arith) c.put_word-2.ensures c.put_word-3.ensures))
