-- The values of the round agree one after the other.
use Rattle.std.proofs.Common.{◌+◌, refl, ap, arith}
use Rattle.block.specs.BlockWires.{round_wires}
use Rattle.forms.specs.WordWires.{word_wires}
use Rattle.agreement.proofs.Agreeing.{agrees_as, agrees_then}
use Rattle.agreement.proofs.rounds.round_agrees.Goals as goal

pub returns : goal.returns
unfolding round_wires
returns c =
    let w = c.args.w.0 in
    λ e x j s h.
    agrees_then (w + 34) refl (c.sum_agrees.ensures c.if-not-sum_agrees.false _ h.u)
    (agrees_then (w + 66) (omega arith)
    (agrees_as (ap word_wires h.ss2) (c.word_agrees.ensures c.if-not-word_agrees.false))
    (agrees_then (w + 98) (omega arith)
    (agrees_as (ap word_wires h.ff) (c.word_agrees-2.ensures c.if-not-word_agrees-2.false))
    (agrees_then (w + 130) (omega arith)
    (agrees_as (ap word_wires h.gg) (c.word_agrees-3.ensures c.if-not-word_agrees-3.false))
    (agrees_then (w + 164) (omega arith) (c.sum_agrees-2.ensures c.if-not-sum_agrees-2.false _ h.tt1)
    (agrees_then (w + 198) (omega arith) (c.sum_agrees-3.ensures c.if-not-sum_agrees-3.false _ h.tt2)
    (agrees_as (ap word_wires h.p0) (c.word_agrees-4.ensures e)))))))
