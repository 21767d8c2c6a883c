-- Before turn j the array has the words before W(16+j), and their wires agree; what a turn computes is of the whole expansion.
use Rattle.std.proofs.Common.{◌≡◌, ◌+◌, sym, ◌∙◌, arith, length-set, take_all, below_more}
use Rattle.assignment.proofs.OneMore.{expanded-wires}
use Rattle.block.specs.BlockWires.{expansion_wires}
use Rattle.agreement.proofs.Agreeing.{agrees_as, agrees_rows}
use Rattle.sm3.proofs.expansion.FirstWords.{store_expanded}
use Rattle.sm3.specs.Sm3.{expansion}
use Rattle.agreement.proofs.expansion.expanded_words_agree.Goals as goal

pub returns-then-not-values_agree : goal.returns-then-not-values_agree
returns-then-not-values_agree c =
    let l = c.loop-j in (
      omega arith,
      λ bits h. (
        λ all. absurd (omega arith),
        agrees_rows l.j (λ j. expansion_wires (expansion bits 68) (16 + j)) (l.invariant.2 bits h).1,
      ),
    )

pub loop-j-preserved : goal.loop-j-preserved
loop-j-preserved c =
    let j = c.loop-j.j in
    let x = c.loop-j.x in
    let r = c.expansion_values-r.ensures in (
      omega arith,
      length-set x (16 + j) _ ∙ c.loop-j.invariant.1,
      λ bits e.
          let known = c.loop-j.invariant.2 bits e in (
            (store_expanded (16 + (j + 1)) (omega arith) r.word (record { full = c.loop-j.invariant.1; words = known.0 })).words,
            below_more _ _ known.1
                (agrees_as (expanded-wires bits x (16 + j) (omega arith) (omega arith) known.0 r.q r.p1 r.word)
                (c.values_agree.ensures c.if-not-values_agree.false)),
          ),
    )

pub returns : goal.returns
returns c =
    let l = c.loop-j in
    let all : l.j ≡ 52 = omega arith in (
      omega arith,
      λ bits h.
          let known = l.invariant.2 bits h in (
            λ e. sym (take_all 68 l.x (omega arith)) ∙ (rw all at known.0),
            agrees_rows 52 (λ j. expansion_wires (expansion bits 68) (16 + j)) (λ j b. known.1 j (omega arith)),
          ),
    )
