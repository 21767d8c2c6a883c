-- The word's four bytes are copied to their place.
use Rattle.std.proofs.Common.{◌∙◌}
use Rattle.encoding.proofs.Bytes.{length-highest_first}
use Rattle.encoding.proofs.Chunk.{part_written, word_bytes}
use Rattle.encoding.proofs.write.put_word.Goals as goal

pub returns : goal.returns
returns c =
    let a = c.args in
    let copied = rw c.to_be_bytes.ensures at c.copy_from_slice.ensures.after in
    part_written a.at 4 _ _ a.out.now (copied ∙ word_bytes a.w) (length-highest_first 4 a.w) c.requires
