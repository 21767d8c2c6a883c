-- The block wires of a padded message, block after block (document 01, "Wires").
use Rattle.std.specs.Prelude.{ℕ}
use Rattle.block.specs.BlockWires.{block_wires}
use Rattle.block.specs.Wires.{wires_per_block}
use Rattle.encoding.specs.Sequence.{grid}
use Rattle.sm3.specs.Message.{block_bits, chaining_value}

-- of a message m
unfoldable pub message_wires : (ℕ → ℕ) → ℕ → ℕ
message_wires m = grid wires_per_block (λ i. block_wires (block_bits m i) (chaining_value m i))
