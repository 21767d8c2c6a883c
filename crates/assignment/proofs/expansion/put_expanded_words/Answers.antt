-- Before turn j the array has the words before W(16+j), and their wires are written. Wj and q read only words before it, so
-- they are those of the whole expansion.
use Rattle.std.proofs.Common.{◌+◌, refl, ◌∙◌, arith, length-set}
use Rattle.assignment.proofs.OneMore.{expanded-wires}
use Rattle.assignment.proofs.Writes.{length-wrote, wrote_as, wrote_none, wrote-row}
use Rattle.block.specs.BlockWires.{expansion_wires}
use Rattle.sm3.proofs.expansion.FirstWords.{store_expanded}
use Rattle.sm3.specs.Sm3.{expansion}
use Rattle.assignment.proofs.expansion.put_expanded_words.Goals as goal

pub loop-j-init : goal.loop-j-init
loop-j-init c = (omega arith, c.requires.0, refl, λ bits e. (e, wrote_none _ _ _))

pub loop-j-preserved : goal.loop-j-preserved
loop-j-preserved c =
    let j = c.loop-j.j in
    let x = c.loop-j.x in
    let put = c.put_expanded in (
      omega arith,
      length-set x (16 + j) put.result ∙ c.loop-j.invariant.1,
      length-wrote put.ensures.wrote ∙ c.loop-j.invariant.2,
      λ bits e.
          let known = c.loop-j.invariant.3 bits e in (
            (store_expanded (16 + (j + 1)) (omega arith) put.ensures.value (record { full = c.loop-j.invariant.1; words = known.0 })).words,
            wrote-row (λ j. expansion_wires (expansion bits 68) (16 + j)) j _ refl known.1
                (wrote_as
                (expanded-wires bits x (16 + j) (omega arith) (omega arith) known.0 refl refl put.ensures.value) put.ensures.wrote),
          ),
    )
