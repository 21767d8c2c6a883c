-- A block that the record fills is the record's next 64 bytes.
use Rattle.std.proofs.Common.{◌-◌, ◌*◌, length, arith}
use Rattle.sm3.proofs.message.Padding.{record_bits}
use Rattle.sm3.proofs.message.message_block.Goals as goal

pub returns-then-at-handed : goal.returns-then-at-handed
returns-then-at-handed c k below =
    let a = c.args in
    let first = rw c.unwrap.ensures at c.first_chunk.ensures.cases in
    rw first.same (record_bits a.handed.bits a.handed.bytes.now a.i (length a.handed.bytes.now - 64 * a.i) (omega arith) (omega arith) k below)
