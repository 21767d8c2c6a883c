-- What tells one circuit from another: how many blocks it has, the message that each block belongs to, the form of a bit of its content, and
-- what is appended. Everything else is the same for all.
use Rattle.std.specs.Prelude.{ℕ, ◌+◌}
use Rattle.circuit.specs.Axles.{axle_bits, axle_form}
use Rattle.circuit.specs.Frame.{block_first}
use Rattle.circuit.specs.declared.circuits.Circuit.TheVariants.{Record, Axles}
use Rattle.circuit.specs.declared.circuits.Circuit.{Circuit}
use Rattle.circuit.specs.declared.message.MessageSpan.{MessageSpan}
use Rattle.forms.specs.Positions.{one}
use Rattle.forms.specs.declared.form.Form.TheVariants.{Bit}
use Rattle.forms.specs.declared.form.Form.{Form}
use Rattle.limits.specs.Blocks.{blocks}

abbrev pub block_count : Circuit → ℕ
block_count (Record n) = blocks n
block_count (Axles lower upper) = blocks axle_bits

-- the message of block i: the record's blocks are one message, which begins at block 0
abbrev pub message_of : Circuit → ℕ → MessageSpan
message_of (Record n) i = record { bits = n; begin = 0 }
message_of (Axles lower upper) i = record { bits = axle_bits; begin = 0 }

-- "its record wires by bit rows": the form of bit b of block i, where that is one of the message's content
abbrev pub content_form : Circuit → ℕ → ℕ → Form
content_form (Record n) i b = Bit (record { 0 = block_first i + b })
content_form (Axles lower upper) i b = Bit (record { 0 = block_first i + b })

-- nothing is appended to a record, so that the form of an appended row is never asked for; "append 22 wires", "append 34 rows"
abbrev pub appended_wires : Circuit → ℕ
appended_wires (Record n) = 0
appended_wires (Axles lower upper) = 22

abbrev pub appended_rows : Circuit → ℕ
appended_rows (Record n) = 0
appended_rows (Axles lower upper) = 34

abbrev pub appended_form : Circuit → ℕ → Form
appended_form (Record n) k = Bit one
appended_form (Axles lower upper) k = axle_form lower upper k
