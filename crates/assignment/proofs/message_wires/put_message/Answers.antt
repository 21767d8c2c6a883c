-- Before block i the state is what the message's blocks so far have come to, and their wires are written.
use Rattle.std.proofs.Common.{◌≡◌, ◌+◌, ◌*◌, sym, refl, ap, ◌∙◌, add-one, arith, rules}
use Rattle.assignment.proofs.Writes.{length-wrote, wrote_as, wrote_none, wrote-row}
use Rattle.block.specs.BlockWires.{block_wires}
use Rattle.block.specs.MessageWires.{message_wires}
use Rattle.encoding.proofs.Bits.{bit_of_bytes_lt}
use Rattle.encoding.specs.Bits.{bit_of_bytes}
use Rattle.limits.specs.Blocks.{blocks}
use Rattle.sm3.proofs.Bounds.{message_lt}
use Rattle.sm3.specs.Message.{block_bits, chaining_value, digest_of}
use Rattle.sm3.specs.Sm3.{block}
use Rattle.assignment.proofs.message_wires.put_message.Invariants.{message_of}
use Rattle.assignment.proofs.message_wires.put_message.Goals as goal

pub loop-i-init : goal.loop-i-init
unfolding chaining_value
loop-i-init c = (omega arith, c.start_state-v.ensures, wrote_none _ _ _)

pub overflow_mul-i : goal.overflow_mul-i
unfolding blocks
overflow_mul-i c = omega arith

pub overflow_add-first : goal.overflow_add-first
unfolding blocks
overflow_add-first c = omega (arith, c)

pub message_words-requires : goal.message_words-requires
unfolding blocks
message_words-requires c = search rules

pub put_block-v-requires : goal.put_block-v-requires
put_block-v-requires c =
    omega (arith, c, c.block_count-n.ensures, length-wrote c.loop-i.invariant.2)

pub loop-i-preserved : goal.loop-i-preserved
unfolding block_bits chaining_value
loop-i-preserved c =
    let a = c.args in
    let bytes = a.handed.bytes.now in
    let m = message_of a.handed.bits bytes in
    let i = c.loop-i.i in
    let put = c.put_block-v.ensures (block_bits m i)
    (λ k below. message_lt a.handed.bits (bit_of_bytes bytes) (λ k below. bit_of_bytes_lt bytes k) (512 * i + k))
    c.message_words.ensures.1 in (
      omega arith,
      put.0 ∙ ap (block (block_bits m i)) c.loop-i.invariant.1 ∙ ap (chaining_value m) (sym (add-one i)),
      wrote-row (λ i. block_wires (block_bits m i) (chaining_value m i)) i _ refl c.loop-i.invariant.2
          (wrote_as (ap (block_wires (block_bits m i)) c.loop-i.invariant.1) put.1),
    )

pub shape_of-out : goal.shape_of-out
shape_of-out c = length-wrote c.loop-i.invariant.2

pub returns : goal.returns
unfolding digest_of message_wires
returns c =
    let l = c.loop-i in
    let a = c.args in
    let all : l.i ≡ blocks a.handed.bits = omega arith in
    record {
      value = l.invariant.1 ∙ ap (chaining_value (message_of a.handed.bits a.handed.bytes.now)) all;
      wrote = rw all at l.invariant.2;
    }
