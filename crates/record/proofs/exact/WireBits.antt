-- Every wire of a record is 0 or 1: the constant 1, a bit of a word, a carry or a bit of the message.
use Prim.Native.Nat.{ℕ, ◌<◌}
use Rattle.block.proofs.exact.WireBits.{message-bits}
use Rattle.record.specs.Layout.{wire_of}
use Rattle.circuit.proofs.exact.FrameWires.{frame_bits}
use Rattle.sm3.proofs.Bounds.{message_lt}

pub wire_lt : (n : ℕ) (r : ℕ → ℕ) → ((k : ℕ) → k < n → r k < 2) → (w : ℕ) → wire_of n r w < 2
unfolding wire_of
wire_lt n r bits = frame_bits _ _ (message-bits _ (message_lt n r bits))
