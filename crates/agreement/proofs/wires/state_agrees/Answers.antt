-- Before turn k the wires of the first k words agree; by their number they are A to H.
use Rattle.std.proofs.Common.{◌+◌, ◌*◌, get_or, subst, arith}
use Rattle.block.specs.BlockWires.{state_wires}
use Rattle.forms.specs.WordWires.{word_wires}
use Rattle.agreement.proofs.Agreeing.{agrees_rows}
use Rattle.agreement.specs.Agrees.{Agrees}
use Rattle.sm3.specs.Sm3.{word_of}
use Rattle.agreement.proofs.wires.state_agrees.Goals as goal

pub returns : goal.returns
unfolding state_wires word_of
returns c =
    let a = c.args in
    λ e.
    agrees_rows 8 (λ k. word_wires (word_of a.s k))
    (λ k l.
    subst (λ words. Agrees (a.w.0 + 32 * k) 32 (word_wires (get_or words k 0)) a.assignment.now) c.into-words.ensures
    (c.loop-k.invariant.1 k (omega arith)))
