-- The wires of a frame by their numbers: the constant 1, the digest, and all of them bits where those of the blocks are.
use mathlib.Core.Path.{◌≡◌, ◌∙◌}
use Prim.Native.Nat.{ℕ, ◌+◌, ◌<◌}
use lib.Dec.{lit<}
use Rattle.block.proofs.exact.WireBits.{Bits, beside-bits, state_bits}
use Rattle.block.specs.BlockWires.{state_wires}
use Rattle.circuit.specs.Wires.{frame_wires}
use Rattle.encoding.proofs.Sequence.{beside_first, beside_then}
use Rattle.sm3.specs.declared.state.State.{State}

module _ (S : State) (rest : ℕ → ℕ) where
  pub frame_one : frame_wires S rest 0 ≡ 1
  unfolding frame_wires
  frame_one = beside_first 1 _ _ 0 (lit< tt)

  pub frame_digest : (k : ℕ) → k < 256 → frame_wires S rest (1 + k) ≡ state_wires S k
  unfolding frame_wires
  frame_digest k l = beside_then 1 _ _ k ∙ beside_first 256 _ _ k l

  pub frame_bits : Bits rest → Bits (frame_wires S rest)
  unfolding frame_wires
  frame_bits h = beside-bits _ _ _ (λ k. lit< tt) (beside-bits _ _ _ (state_bits _) (beside-bits _ _ _ (state_bits _) h))
