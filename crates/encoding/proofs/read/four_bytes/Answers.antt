-- The four bytes are read as a number, which a word holds.
use Rattle.std.proofs.Common.{◌∙◌, arith}
use Rattle.encoding.proofs.Chunk.{four_read}
use Rattle.encoding.proofs.read.four_bytes.Goals as goal

pub returns : goal.returns
returns c =
    let first = rw c.unwrap.ensures at c.first_chunk.ensures.cases in (
      c.from.ensures ∙ c.from_le_bytes.ensures ∙ four_read c.args.bytes.now c.unwrap.result.now c.args.at _ first,
      omega arith,
    )
