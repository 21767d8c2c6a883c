-- Before block i the state is what the message's blocks so far have come to, and their wires are written.
use Rattle.std.proofs.Common.{◌≡◌, ℕ, ◌*◌, ◌≤◌, List}
use Rattle.assignment.specs.Wrote.{Wrote}
use Rattle.block.specs.BlockWires.{block_wires}
use Rattle.block.specs.Wires.{wires_per_block}
use Rattle.encoding.specs.Bits.{bit_of_bytes}
use Rattle.encoding.specs.Sequence.{grid}
use Rattle.sm3.specs.Message.{block_bits, chaining_value, message}
use Rattle.assignment.proofs.message_wires.put_message.Given as goal

-- the record's message, and its block wires
abbrev pub message_of : ℕ → List ℕ → ℕ → ℕ
message_of n bytes = message n (bit_of_bytes bytes)

abbrev pub wires : (ℕ → ℕ) → ℕ → ℕ
wires m = grid wires_per_block (λ i. block_wires (block_bits m i) (chaining_value m i))

abbrev pub invariant-loop-i : goal.invariant-loop-i
invariant-loop-i l =
    (l.i ≤ l.n) × (l.v ≡ chaining_value (message_of l.handed.bits l.handed.bytes.now) l.i) × Wrote l.first.0 (wires_per_block * l.i) (wires (message_of l.handed.bits l.handed.bytes.now)) l.initial.out l.out
