-- Before turn i the number is what the first i bits write, where all entries are bits.
use Rattle.std.proofs.Common.{◌≤◌}
use Rattle.agreement.specs.Agrees.{Bits, BitsOf}
use Rattle.agreement.proofs.word_read.number_from.Given as goal

abbrev pub invariant-loop-i : goal.invariant-loop-i
invariant-loop-i l = (l.i ≤ 32) × (Bits l.w.0 32 l.assignment → BitsOf l.w.0 l.i l.number l.assignment)
