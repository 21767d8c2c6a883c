-- Up to the bit length the block is the message's; in the last block the length is set behind it.
use Rattle.std.proofs.Common.{◌∙◌, arith}
use Rattle.sm3.proofs.message.PaddedBlock.{ended_laid, ended_bytes, last, length-set, not_last, with_length}
use Rattle.sm3.proofs.message.Padding.{block-bits}
use Rattle.sm3.proofs.message.padded.Goals as goal

pub returns-then-handed-i : goal.returns-then-handed-i
returns-then-handed-i c =
    let b = c.ended-b in
    let a = c.args in
    let bytes = a.handed.bytes.now in
    let laid = ended_laid a.handed.bits bytes a.i (omega arith) in
    let f = ended_bytes a.handed.bits bytes a.i in
    block-bits a.handed.bits bytes a.i (with_length a.handed.bits bytes a.i f laid)
    (last a.handed.bits bytes a.i f laid (omega arith) (omega arith)) c.with_length.result
    (c.with_length.ensures ∙ length-set a.handed.bits bytes a.i f laid b.result b.ensures)

pub returns : goal.returns
returns c =
    let b = c.ended-b in
    let a = c.args in
    let bytes = a.handed.bytes.now in
    let laid = ended_laid a.handed.bits bytes a.i (omega arith) in
    let f = ended_bytes a.handed.bits bytes a.i in
    block-bits a.handed.bits bytes a.i f (not_last a.handed.bits bytes a.i f laid (omega arith)) b.result b.ensures
