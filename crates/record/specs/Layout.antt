-- A record's wires, worked out from the record alone (document 01, "Wires" and "The words of demand 3"). The record is
-- n bits r; place w of `wire_of n r` is the value of wire w.
use Rattle.std.specs.Prelude.{ℕ, ◌+◌, ◌*◌, ◌/◌, ◌%◌}
use Rattle.block.specs.MessageWires.{message_wires}
use Rattle.block.specs.Wires.{wires_per_block}
use Rattle.circuit.specs.Wires.{first_block, frame_wires}
use Rattle.sm3.specs.Message.{digest_of, message}

-- "Wire 0 is the constant 1. Wires 1 to 256: digest. 257 to 512: start words. Then 22,528 a block"
unfoldable pub wire_of : ℕ → (ℕ → ℕ) → ℕ → ℕ
wire_of n r = frame_wires (digest_of n r) (message_wires (message n r))

-- "those before bit" n "of the message are the record wires": the wire of record bit k
unfoldable pub record_wire : ℕ → ℕ
record_wire k = first_block + wires_per_block * (k / 512) + k % 512
