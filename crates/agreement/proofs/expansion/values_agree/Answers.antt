-- The wires of the three words agree one after the other.
use Rattle.std.proofs.Common.{◌+◌, refl, arith}
use Rattle.agreement.proofs.Agreeing.{agrees_then}
use Rattle.agreement.proofs.expansion.values_agree.Goals as goal

pub returns : goal.returns
returns c =
    let w = c.args.w.0 in
    λ e.
    agrees_then (w + 32) refl (c.word_agrees.ensures c.if-not-word_agrees.false)
    (agrees_then (w + 64) (omega arith) (c.word_agrees-2.ensures c.if-not-word_agrees-2.false)
    (c.word_agrees-3.ensures e))
