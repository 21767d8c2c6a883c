-- The wires of a circuit's blocks, where the content of each block's message is given: block i is one of the message `message_of c i`, and the
-- content of that message is r i.
use Rattle.std.specs.Prelude.{ℕ, ◌-◌}
use Rattle.block.specs.BlockWires.{block_wires}
use Rattle.block.specs.Wires.{wires_per_block}
use Rattle.circuit.specs.Circuits.{message_of}
use Rattle.circuit.specs.declared.circuits.Circuit.{Circuit}
use Rattle.encoding.specs.Sequence.{grid}
use Rattle.sm3.specs.Message.{block_bits, chaining_value, message}
use Rattle.sm3.specs.declared.state.State.{State}

-- the 512 bits of block i, and the words that it begins with
unfoldable pub series_bits : Circuit → (ℕ → ℕ → ℕ) → ℕ → ℕ → ℕ
series_bits c r i = block_bits (message (message_of c i).bits (r i)) (i - (message_of c i).begin)

unfoldable pub series_begins : Circuit → (ℕ → ℕ → ℕ) → ℕ → State
series_begins c r i = chaining_value (message (message_of c i).bits (r i)) (i - (message_of c i).begin)

unfoldable pub series_wires : Circuit → (ℕ → ℕ → ℕ) → ℕ → ℕ
series_wires c r = grid wires_per_block (λ i. block_wires (series_bits c r i) (series_begins c r i))
