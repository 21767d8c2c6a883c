-- Before turn j the wires of the first j words are written; a turn writes the next row of the grid.
use Rattle.std.proofs.Common.{get_or, refl, arith}
use Rattle.assignment.proofs.Writes.{wrote_none, wrote-row}
use Rattle.forms.specs.WordWires.{word_wires}
use Rattle.assignment.proofs.wires.put_words.Goals as goal

pub loop-j-init : goal.loop-j-init
loop-j-init c = (omega arith, wrote_none _ _ _)

pub loop-j-preserved : goal.loop-j-preserved
loop-j-preserved c =
    let words = c.args.words.now in
    (omega arith, wrote-row (λ j. word_wires (get_or words j 0)) c.loop-j.j _ refl c.loop-j.invariant.1 c.put_word.ensures)
