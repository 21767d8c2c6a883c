-- A shift by 7 - k mod 8 is the division by that power of two.
use Rattle.encoding.specs.Bits.{bit_of_bytes}
use Rattle.encoding.proofs.read.bit_at.Goals as goal

pub returns : goal.returns
unfolding bit_of_bytes
returns c = rw (← c.from.ensures)
