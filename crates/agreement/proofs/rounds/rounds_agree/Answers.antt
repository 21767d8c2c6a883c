-- Before turn j A to H are those before round j, and the wires of the first j rounds agree.
use Rattle.std.proofs.Common.{◌≡◌, refl, ap, arith, below_none, below_more}
use Rattle.assignment.proofs.OneMore.{one-round}
use Rattle.block.specs.BlockWires.{round_wires}
use Rattle.agreement.proofs.Agreeing.{agrees_as, agrees_rows}
use Rattle.sm3.specs.Sm3.{rounds}
use Rattle.agreement.proofs.rounds.rounds_agree.Goals as goal

pub loop-j-init : goal.loop-j-init
unfolding rounds
loop-j-init c = (omega arith, refl, below_none _)

pub returns-then-not-round_agrees : goal.returns-then-not-round_agrees
returns-then-not-round_agrees c =
    let a = c.args in
    let x = a.x.now in
    (omega arith, c.loop-j.invariant.1, agrees_rows c.loop-j.j (λ j. round_wires x j (rounds x a.v j)) c.loop-j.invariant.2)

pub loop-j-preserved : goal.loop-j-preserved
loop-j-preserved c =
    let a = c.args in
    let j = c.loop-j.j in
    let x = a.x.now in
    let r = c.round_values-r.ensures in (
      omega arith,
      one-round x a.v j (c.after_round-s.ensures _ _ _ r) c.loop-j.invariant.1,
      below_more _ _ c.loop-j.invariant.2
          (agrees_as (ap (round_wires x j) c.loop-j.invariant.1)
          (c.round_agrees.ensures c.if-not-round_agrees.false x j c.loop-j.s r)),
    )

pub returns : goal.returns
returns c =
    let a = c.args in
    let x = a.x.now in
    let all : c.loop-j.j ≡ 64 = omega arith in (
      omega arith,
      rw all at c.loop-j.invariant.1,
      agrees_rows 64 (λ j. round_wires x j (rounds x a.v j)) (λ j b. c.loop-j.invariant.2 j (omega arith)),
    )
