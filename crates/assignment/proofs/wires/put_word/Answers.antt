-- Before turn i the first i bits are written; a turn writes the next.
use Rattle.std.proofs.Common.{refl, arith}
use Rattle.assignment.proofs.Writes.{wrote-next, wrote_none}
use Rattle.forms.specs.WordWires.{word_wires}
use Rattle.assignment.proofs.wires.put_word.Goals as goal

pub loop-i-init : goal.loop-i-init
loop-i-init c = (omega arith, wrote_none _ _ _)

pub loop-i-preserved : goal.loop-i-preserved
unfolding word_wires
loop-i-preserved c =
    (omega arith, wrote-next _ refl c.bit_of.ensures c.loop-i.invariant.1 c.put_entry.ensures)
