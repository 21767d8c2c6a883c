-- The four bytes are read as a word.
use Rattle.std.proofs.Common.{◌∙◌}
use Rattle.encoding.proofs.Chunk.{word_read}
use Rattle.encoding.proofs.read.word_at.Goals as goal

pub returns : goal.returns
returns c =
    let first = rw c.unwrap.ensures at c.first_chunk.ensures.cases in
    c.from_be_bytes.ensures ∙ word_read c.args.bytes.now c.unwrap.result.now c.args.at _ (λ k. (c.type_inv.bytes k).fits) first
