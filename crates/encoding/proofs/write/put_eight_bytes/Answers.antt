-- The number's eight bytes are copied to their place.
use Rattle.std.proofs.Common.{◌∙◌}
use Rattle.encoding.proofs.Bytes.{length-least_first}
use Rattle.encoding.proofs.Chunk.{eight_bytes_lem, part_written}
use Rattle.encoding.proofs.write.put_eight_bytes.Goals as goal

pub returns : goal.returns
returns c =
    let a = c.args in
    let copied = rw c.to_le_bytes.ensures at c.copy_from_slice.ensures.after in
    part_written a.at 8 _ _ a.out.now (copied ∙ eight_bytes_lem a.x) (length-least_first 8 a.x) c.requires
