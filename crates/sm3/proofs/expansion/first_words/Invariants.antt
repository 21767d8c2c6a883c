-- After j turns the array holds the first j words of the block's expansion.
use Rattle.std.proofs.Common.{◌≤◌}
use Rattle.sm3.proofs.expansion.FirstWords.{Holds}
use Rattle.encoding.specs.Bits.{bit_of_bytes}
use Rattle.sm3.proofs.expansion.first_words.Given as goal

abbrev pub invariant-loop-j : goal.invariant-loop-j
invariant-loop-j l =
    (l.j ≤ l.n) × (l.n ≤ 16) × Holds (bit_of_bytes l.bytes) l.w l.j
