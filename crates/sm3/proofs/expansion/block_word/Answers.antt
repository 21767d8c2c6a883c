-- The four bytes from 4 * j on have the block's bits from 32 * j on.
use Rattle.std.proofs.Common.{ap, ◌∙◌, arith}
use Rattle.sm3.specs.Sm3.{block_word}
use Rattle.encoding.proofs.Bits.{number_cong}
use Rattle.encoding.specs.Bits.{bit_of_bytes}
use Rattle.sm3.proofs.expansion.block_word.Goals as goal

pub returns : goal.returns
unfolding block_word
returns c =
    let bytes = c.args.bytes.now in
    c.word_at.ensures ∙ number_cong 32 _ _ (λ i l. ap (bit_of_bytes bytes) (omega arith))
