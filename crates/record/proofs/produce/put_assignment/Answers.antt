-- The blocks are those of the message, whose digest the frame has.
use mathlib.Core.Path.{subst}
use Prim.Native.Nat.{◌+◌, ◌*◌}
use native.Mathlib.Nat.{add-zero}
use native.Mathlib.Omega.{arith}
use borrow.Author.Rules.{rules}
use Rattle.assignment.specs.Wrote.{Wrote}
use Rattle.block.specs.MessageWires.{message_wires}
use Rattle.block.specs.Wires.{wires_per_block}
use Rattle.circuit.specs.Wires.{first_block, frame_wires, wire_count}
use Rattle.circuit.specs.declared.circuits.Circuit.TheVariants.{Record}
use Rattle.encoding.specs.Bits.{bit_of_bytes}
use Rattle.limits.specs.Blocks.{blocks}
use Rattle.record.specs.Layout.{wire_of}
use Rattle.sm3.specs.Message.{message}
use Rattle.sm3.specs.declared.state.State.{State}
use Rattle.record.proofs.produce.put_assignment.Goals as goal

pub put_message-digest-requires : goal.put_message-digest-requires
unfolding wire_count
put_message-digest-requires c = search rules

pub put_frame-requires : goal.put_frame-requires
unfolding wire_count
put_frame-requires c = omega arith

pub returns : goal.returns
unfolding wire_count wire_of
returns c =
    let a = c.args in
    let n = a.handed.bits in
    subst (λ (s : State). Wrote 0 (wire_count (Record n)) (frame_wires s (message_wires (message n (bit_of_bytes a.handed.bytes.now)))) a.out.now c.put_frame.new.out)
    c.put_message-digest.ensures.value
    (rw (add-zero (first_block + wires_per_block * blocks n)) (c.put_frame.ensures _ _ _ c.put_message-digest.ensures.wrote))
