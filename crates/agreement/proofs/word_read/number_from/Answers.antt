-- Before turn i the number is what the first i bits write, where all entries are bits.
use Rattle.std.proofs.Common.{refl, arith}
use Rattle.agreement.proofs.word_read.BitByBit.{next_bit, no_bit}
use Rattle.agreement.proofs.word_read.number_from.Goals as goal

pub loop-i-init : goal.loop-i-init
loop-i-init c = (omega arith, λ bits. no_bit _ _)

pub loop-i-preserved : goal.loop-i-preserved
loop-i-preserved c =
    (omega arith, next_bit c.loop-i-test.true c.read-n.ensures refl refl c.loop-i.invariant.1)
