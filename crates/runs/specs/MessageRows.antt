-- The rows of a block's 512 bits, those of the padding and those of the content: devices of the contracts of the check's parts. What `check`
-- answers is said without them.
use Rattle.std.specs.Prelude.{List, ◌≡◌, ℕ, ◌+◌, ◌<◌, ◌≤◌}
use Rattle.assignment.specs.Assignment.{entry}
use Rattle.circuit.specs.Circuit.{message_bit}
use Rattle.circuit.specs.Circuits.{content_form}
use Rattle.circuit.specs.Wires.{block_first}
use Rattle.circuit.specs.declared.circuits.Circuit.{Circuit}
use Rattle.circuit.specs.declared.message.MessageSpan.{MessageSpan}
use Rattle.forms.specs.Rows.{Satisfied, row_of}
use Rattle.sm3.specs.Message.{message}

-- the padding in block i of the message m stands on the block's wires
pub record Padded (m : MessageSpan) (i : ℕ) (bytes : List ℕ) : Type 0 where
  pub each : (k : ℕ) → k < 512 → m.bits ≤ message_bit m i k
      → entry bytes (block_first i + k) ≡ message m.bits (λ j. 0) (message_bit m i k)

-- the rows of the content's bits in block i, which is one of the message m, are satisfied
pub record ContentHolds (c : Circuit) (m : MessageSpan) (i : ℕ) (bytes : List ℕ) : Type 0 where
  pub each : (b : ℕ) → b < 512 → message_bit m i b < m.bits → Satisfied (entry bytes) (row_of (content_form c i b))
