-- Whole bytes. The wires are those of the message, which is the padded bytes, and of the count of its blocks; the tests of each answer
-- ask the range and the counts, and 13 and 14 do not come up.
use Rattle.forms.specs.declared.terms.Counts.{Counts}
use Rattle.refusal.specs.declared.outcome.Refusal.{Refusal}
use Rattle.refusal.specs.Refusals.{done}
use Rattle.std.specs.Prelude.{Err, Result}
use mathlib.Core.Bool.{cond}
use mathlib.Core.Path.{◌∙◌, ap, ap₂}
use Prim.Native.Nat.{◌*◌}
use lib.Dec.{ltb}
use lib.ListN.{length}
use Rattle.block.specs.MessageWires.{message_wires}
use Rattle.circuit.proofs.WholeBytes as circuit
use Rattle.circuit.specs.GivenRow.{given_row}
use Rattle.circuit.specs.Wires.{frame_wires}
use Rattle.limits.proofs.Limited.{ours_length, ours_stand}
use Rattle.record.specs.Check.{check_answer}
use Rattle.record.specs.Layout.{wire_of}
use Rattle.record.specs.RowAnswer.{row_answer}
use Rattle.record.specs.WholeBytes.{WholeBytes}
use Rattle.refusal.specs.declared.outcome.Refusal.TheVariants.{BufferTooShort, LengthOutOfRange}
use Rattle.acceptance.specs.Check.{circuit_check}
use Rattle.sm3.proofs.WholeBytes.{padded-message, whole_bytes, whole_handed}
use Rattle.sm3.specs.Message.{chaining_value, digest_of}
use Rattle.sm3.specs.WholeBytes.{most_bytes}

pub record_whole_bytes : WholeBytes
unfolding wire_of digest_of row_answer given_row check_answer circuit_check
record_whole_bytes =
    record {
      wires =
          λ r.
          ap₂ (λ m c. frame_wires (chaining_value m c) (message_wires m)) (padded-message r) (whole_bytes.block_count_lem (length r));
      row =
          λ L k room.
          ours_stand (Result Counts Refusal) Err (λ answer. answer) (8 * L) _ ∙ rw (whole_bytes.range L, (circuit.whole_bytes).row_count_lem L);
      produce =
          λ r room.
          whole_handed r _
          ∙ ap (λ n. cond (ltb most_bytes (length r)) (Err LengthOutOfRange) (cond (ltb room (8 * n)) (Err BufferTooShort) done))
          ((circuit.whole_bytes).wire_count_lem (length r));
      check =
          λ L d a.
          ours_length (8 * L) _
          ∙ rw (whole_bytes.range L, (circuit.whole_bytes).wire_count_lem L, (circuit.whole_bytes).row_count_lem L);
    }
