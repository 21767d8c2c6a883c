-- Turn i puts on the term of bit i behind those of the bits before it.
use Rattle.std.proofs.Common.{◌≡◌, ◌-◌, ◌*◌, ap, ap₂, ◌∙◌, arith}
use Rattle.encoding.specs.Sequence.{tab}
use Rattle.forms.proofs.terms.Pushed.{number_term, pushed_next, pushed_none, shifted}
use Rattle.forms.specs.Rows.{◌·◌, number_terms, with_sign}
use Rattle.forms.proofs.terms.push_number.Goals as goal

pub loop-i-init : goal.loop-i-init
unfolding tab
loop-i-init c = (pushed_none c.args.part.now, omega arith)

pub loop-i-preserved : goal.loop-i-preserved
loop-i-preserved c =
    let a = c.args in
    let i = c.loop-i.i in
    let weight = shifted (a.width - 1 - i) (omega (arith, c.requires)) in
    let sign = c.with_sign.ensures ∙ ap (λ m. with_sign a.plus (a.k * m)) weight in (
      pushed_next a.part.now (number_term a.plus a.k a.width a.w) i c.loop-i.invariant.0
          (c.times.ensures ∙ ap₂ ◌·◌ sign c.wire_past.ensures) c.push.ensures.end,
      omega (arith, c.push.ensures.room, c.loop-i.invariant.1),
    )

pub returns-clause-end : goal.returns-clause-end
unfolding number_terms
returns-clause-end c =
    let end : c.loop-i.i ≡ c.args.width = omega (arith, c.loop-i.auto.i-end, c.loop-i-test.false) in
    rw end at c.loop-i.invariant.0
