-- Where the start wires agree, or the digest is copied, its run of rows holds, by `start-holds` and `digest-holds`; of a block, as many rows
-- as its wires tell, and of the appendix as many as the forms of its rows tell.
use mathlib.Core.Path.{◌≡◌, subst}
use Prim.Native.Nat.{◌+◌, ◌*◌}
use native.Mathlib.Omega.{arith}
use Rattle.block.specs.BlockWires.{state_wires}
use Rattle.block.specs.Steps.{block_rows}
use Rattle.circuit.proofs.place.PlaceRange.{some_blocks}
use Rattle.circuit.specs.Circuits.{block_count}
use Rattle.circuit.specs.Places.{row_count, state_rows}
use Rattle.circuit.specs.Wires.{start_first, wire_count}
use Rattle.runs.proofs.Holding.{hold_from, hold_none}
use Rattle.runs.proofs.held.StartHolds.{digest-holds, start-holds}
use Rattle.agreement.specs.Agrees.{Agrees}
use Rattle.sm3.specs.declared.state.State.{State}
use Rattle.runs.proofs.candidate.Candidate.rows_held.Goals as goal

pub state_agrees-requires : goal.state_agrees-requires
unfolding wire_count
state_agrees-requires c = omega (arith, c.args.self.now.whole)

pub returns-then-state_agrees : goal.returns-then-state_agrees
unfolding row_count
returns-then-state_agrees c = (
  omega (arith, c.if-row-eq0.true),
  hold_from _ c.if-row-eq0.true
      (start-holds _ c.args.self.now.one c.args.self.now.below c.args.self.now.circuit (some_blocks c.args.self.now.circuit c.args.self.now.allowed)
      (subst (λ (s : State). Agrees start_first 256 (state_wires s) c.args.self.now.assignment.now) c.start_state.ensures
      (c.state_agrees.ensures c.if-state_agrees.true))),
)

pub returns-then-row-eq0 : goal.returns-then-row-eq0
returns-then-row-eq0 c = (omega (arith, c.requires), hold_none _)

pub returns-then-row-lt-STATE_ROWS : goal.returns-then-row-lt-STATE_ROWS
returns-then-row-lt-STATE_ROWS c = (omega (arith, c.requires), hold_none _)

pub block_count-requires : goal.block_count-requires
block_count-requires c = c.args.self.now.allowed

pub returns-then-row-i : goal.returns-then-row-i
returns-then-row-i c = (omega (arith, c.requires), hold_none _)

pub rows_passed-requires : goal.rows_passed-requires
rows_passed-requires c =
    omega (arith, c.if-row-digest.true, c.if-row-i.false, c.block_count.ensures.0)

pub returns-then-row-digest : goal.returns-then-row-digest
unfolding row_count
returns-then-row-digest c =
    let passed = c.rows_passed.ensures in (
      omega (arith, passed.0, c.if-row-digest.true, c.block_count.ensures.0, c.if-row-i.false),
      hold_from _ c.if-row-i.false passed.1,
    )

pub returns-then-digest_is_copied : goal.returns-then-digest_is_copied
unfolding row_count
returns-then-digest_is_copied c =
    let C = c.args.self.now.circuit in
    let first : c.args.row.0 ≡ state_rows + block_rows * block_count C =
    omega (arith, c.if-row-digest-2.true, c.block_count.ensures.0) in (
      omega (arith, first),
      hold_from _ first
          (digest-holds _ c.args.self.now.one c.args.self.now.below C (some_blocks C c.args.self.now.allowed) (c.digest_is_copied.ensures c.if-digest_is_copied.true)),
    )

pub returns-then-row-digest-2 : goal.returns-then-row-digest-2
returns-then-row-digest-2 c = (omega (arith, c.requires), hold_none _)

pub returns-then-row-digest-3 : goal.returns-then-row-digest-3
unfolding row_count
returns-then-row-digest-3 c =
    let passed = c.appended_passed.ensures in
    let first : c.args.row.0 ≡ state_rows + block_rows * block_count c.args.self.now.circuit + state_rows =
    omega (arith, c.if-row-digest-3.true, c.block_count.ensures.0) in
    (omega (arith, first, passed.0), hold_from _ first passed.1)

pub returns : goal.returns
returns c = (omega (arith, c.requires), hold_none _)
