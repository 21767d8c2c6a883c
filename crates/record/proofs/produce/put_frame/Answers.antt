-- The start words, the digest and wire 0 are written one before the other, each before what is written already.
use mathlib.Core.Path.{◌≡◌, ap, refl, subst}
use Prim.Native.Nat.{◌+◌}
use native.Mathlib.Omega.{arith}
use Rattle.assignment.proofs.Writes.{wrote_as, wrote-before}
use Rattle.assignment.specs.Wrote.{Wrote}
use Rattle.block.specs.BlockWires.{state_wires}
use Rattle.circuit.specs.Wires.{digest_first, first_block, frame_wires, start_first}
use Rattle.record.proofs.produce.put_frame.Goals as goal

pub put_state-requires : goal.put_state-requires
put_state-requires c = omega arith

pub put_state-requires-2 : goal.put_state-requires-2
put_state-requires-2 c = omega arith

pub put_entry-requires : goal.put_entry-requires
put_entry-requires c = omega arith

pub returns : goal.returns
unfolding frame_wires
returns c =
    let digest = c.args.digest in
    λ before n rest wrote.
    let all : 1 + (256 + (256 + n)) ≡ first_block + n = omega arith in
    subst (λ k. Wrote 0 k (frame_wires digest rest) before c.put_entry.new.out) all
    (wrote-before digest_first refl
    (wrote-before start_first refl (wrote-before first_block refl wrote (wrote_as (ap state_wires c.start_state.ensures) c.put_state.ensures))
    c.put_state-2.ensures)
    c.put_entry.ensures)
