-- Turn i puts on the term of bit i behind those of the bits before it.
use Rattle.std.proofs.Common.{◌≡◌, ◌-◌, ap₂, ◌∙◌, arith}
use Rattle.encoding.specs.Sequence.{tab}
use Rattle.forms.proofs.terms.Pushed.{pushed_next, pushed_none, shifted, word_term}
use Rattle.forms.specs.Rows.{◌·◌, weighted}
use Rattle.forms.proofs.terms.push_word.Goals as goal

pub loop-i-init : goal.loop-i-init
unfolding tab
loop-i-init c = (pushed_none c.args.part.now, omega arith)

pub loop-i-preserved : goal.loop-i-preserved
loop-i-preserved c =
    let x = c.args.x in
    let i = c.loop-i.i in (
      pushed_next c.args.part.now (word_term x) i c.loop-i.invariant.0
          (c.times.ensures ∙ ap₂ ◌·◌ (shifted (31 - i) (omega arith)) c.wire_of_bit.ensures) c.push.ensures.end,
      omega (arith, c.push.ensures.room, c.loop-i.invariant.1),
    )

pub returns-clause-end : goal.returns-clause-end
unfolding weighted
returns-clause-end c =
    let end : c.loop-i.i ≡ 32 = omega (arith, c.loop-i.auto.i-end, c.loop-i-test.false) in
    rw end at c.loop-i.invariant.0
