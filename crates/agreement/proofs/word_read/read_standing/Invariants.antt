-- Before turn i none of the first i entries is above what was seen, and the number is what they write, where all entries are bits. Where
-- nothing above 1 was seen they are.
use Rattle.std.proofs.Common.{◌≤◌}
use Rattle.assignment.specs.Bounded.{AtMost}
use Rattle.agreement.specs.Agrees.{Bits, BitsOf}
use Rattle.agreement.proofs.word_read.read_standing.Given as goal

abbrev pub invariant-loop-i : goal.invariant-loop-i
invariant-loop-i l =
    (l.i ≤ 32) × AtMost l.w.0 l.i l.seen l.assignment × (Bits l.w.0 32 l.assignment → BitsOf l.w.0 l.i l.number l.assignment)
