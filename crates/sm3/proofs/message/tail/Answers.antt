-- What is left of the record is copied to the front of zeros.
use Rattle.std.proofs.Common.{refl}
use Rattle.encoding.specs.Sequence.{tab}
use Rattle.sm3.proofs.message.Copied.{tail_copied}
use Rattle.sm3.proofs.message.tail.Goals as goal

pub returns : goal.returns
unfolding tab
returns c =
    let a = c.args in
    tail_copied a.bytes.now a.at c.min.result c.min.ensures c.requires _ _ c.copy_from_slice.ensures.after refl
