-- The wires of a circuit (document 01, "Wires").
use Rattle.std.specs.Prelude.{ℕ, ◌+◌, ◌*◌}
use Rattle.block.specs.BlockWires.{state_wires}
use Rattle.block.specs.Wires.{wires_per_block}
use Rattle.circuit.specs.Circuits.{appended_wires, block_count}
use Rattle.circuit.specs.Frame.{first_block}
pub use Rattle.circuit.specs.Frame.{block_first, digest_first, first_block, start_first}
use Rattle.circuit.specs.declared.circuits.Circuit.{Circuit}
use Rattle.encoding.specs.Sequence.{beside}
use Rattle.sm3.specs.Sm3.{start}
use Rattle.sm3.specs.declared.state.State.{State}

-- "Wire 0 is the constant 1", the digest, the start words; then the wires of the blocks, and those that are appended
unfoldable pub frame_wires : State → (ℕ → ℕ) → ℕ → ℕ
frame_wires digest rest = beside 1 (λ k. 1) (beside 256 (state_wires digest) (beside 256 (state_wires start) rest))

-- "Wires in all: 513 + 22,528 × n", and those that are appended
unfoldable pub wire_count : Circuit → ℕ
wire_count c = first_block + wires_per_block * block_count c + appended_wires c
