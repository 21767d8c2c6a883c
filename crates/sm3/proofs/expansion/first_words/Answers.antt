-- After j turns the array holds the first j words of the block's expansion.
use Rattle.std.proofs.Common.{◌≡◌, ◌+◌, sym, refl, ◌∙◌, arith}
use Rattle.sm3.specs.Sm3.{expansion}
use Rattle.sm3.proofs.expansion.FirstWords.{W, W-block, store_W}
use Rattle.encoding.specs.Bits.{bit_of_bytes}
use Rattle.sm3.proofs.expansion.first_words.Goals as goal

pub loop-j-init : goal.loop-j-init
unfolding expansion
loop-j-init c = (omega arith, omega arith, record { full = refl; words = refl })

pub loop-j-preserved : goal.loop-j-preserved
loop-j-preserved c =
    let m = c.loop-j in
    let bits = bit_of_bytes c.args.bytes.now in
    let e : c.block_word.result ≡ W bits m.j = c.block_word.ensures ∙ sym (W-block bits m.j (omega arith)) in
    (omega arith, omega arith, store_W (m.j + 1) (omega arith) e m.invariant.2)

pub returns : goal.returns
returns c =
    let p = c.loop-j.invariant.2 in
    let e : c.loop-j.j ≡ c.args.n = omega arith in
    (p.full, rw e at p.words)
