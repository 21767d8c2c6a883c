-- The eight bytes are read as a number.
use Rattle.std.proofs.Common.{◌∙◌}
use Rattle.encoding.proofs.Chunk.{eight_read}
use Rattle.encoding.proofs.read.eight_bytes.Goals as goal

pub returns : goal.returns
returns c =
    let first = rw c.unwrap.ensures at c.first_chunk.ensures.cases in
    c.from_le_bytes.ensures ∙ eight_read c.args.bytes.now c.unwrap.result.now c.args.at _ first
