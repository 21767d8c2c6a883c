-- Before turn j the state is what j rounds have made of v, and the wires of these rounds are written.
use Rattle.std.proofs.Common.{refl, ap, arith}
use Rattle.assignment.proofs.OneMore.{one-round}
use Rattle.assignment.proofs.Writes.{wrote_as, wrote_none, wrote-row}
use Rattle.block.specs.BlockWires.{round_wires}
use Rattle.sm3.specs.Sm3.{rounds}
use Rattle.assignment.proofs.rounds.put_rounds.Goals as goal

pub loop-j-init : goal.loop-j-init
unfolding rounds
loop-j-init c = (omega arith, refl, wrote_none _ _ _)

pub loop-j-preserved : goal.loop-j-preserved
loop-j-preserved c =
    let a = c.args in
    let j = c.loop-j.j in
    let x = a.x.now in
    let put = c.put_round-s in (
      omega arith,
      one-round x a.v j put.ensures.value c.loop-j.invariant.1,
      wrote-row (λ j. round_wires x j (rounds x a.v j)) j _ refl c.loop-j.invariant.2
          (wrote_as (ap (round_wires x j) c.loop-j.invariant.1) put.ensures.wrote),
    )
