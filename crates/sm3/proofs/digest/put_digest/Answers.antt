-- After k turns the first k words are written.
use Rattle.std.proofs.Common.{◌≡◌, length, ap, arith}
use Rattle.sm3.proofs.digest.DigestBytes.{all_written, none_written, word_written}
use Rattle.sm3.proofs.digest.put_digest.Goals as goal

pub loop-k-init : goal.loop-k-init
loop-k-init c = (omega arith, none_written _ _)

pub loop-k-preserved : goal.loop-k-preserved
loop-k-preserved c =
    let k = c.loop-k.k in
    let words = c.from-words.result in
    let eight : length words ≡ 8 = ap length c.from-words.ensures in
    (omega arith, word_written words k (omega arith) c.loop-k.invariant.1 c.put_word.ensures)

pub returns : goal.returns
returns c =
    let all : c.loop-k.k ≡ 8 = omega arith in
    all_written c.from-words.result c.args.s c.loop-k.k c.from-words.ensures all c.requires c.loop-k.invariant.1
