-- After k turns the first k words are written.
use Rattle.std.proofs.Common.{◌≤◌}
use Rattle.sm3.proofs.digest.DigestBytes.{Front}
use Rattle.sm3.proofs.digest.put_digest.Given as goal

abbrev pub invariant-loop-k : goal.invariant-loop-k
invariant-loop-k l = (l.k ≤ 8) × Front l.word-items l.k l.initial.out l.out
