-- The record's last bytes are laid out, none in a block past the record; in any other the byte in which the record ends is cut.
use Rattle.std.proofs.Common.{◌∙◌, arith}
use Rattle.sm3.proofs.message.PaddedBlock.{end_cut, past-ended}
use Rattle.sm3.proofs.message.ended.Goals as goal

pub returns-then-handed-at : goal.returns-then-handed-at
returns-then-handed-at c =
    let a = c.args in
    c.tail-b.ensures ∙ past-ended a.handed.bits a.handed.bytes.now a.i (omega arith)

pub returns : goal.returns
returns c =
    let end = c.end_place-end in
    let t = c.tail-b in
    let a = c.args in
    end_cut a.handed.bits a.handed.bytes.now a.i (omega arith) (omega arith) t.result t.ensures end.result c.cut_byte.result end.ensures c.cut_byte.ensures
