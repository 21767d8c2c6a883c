-- Before block i the state is what the message's blocks so far have come to.
use Rattle.std.proofs.Common.{◌≡◌, sym, ap, ◌∙◌, add-one, arith}
use Rattle.sm3.specs.Message.{block_bits, chaining_value, message}
use Rattle.sm3.specs.Sm3.{block}
use Rattle.encoding.specs.Bits.{bit_of_bytes}
use Rattle.sm3.proofs.message.chaining_value.Goals as goal

pub loop-i-init : goal.loop-i-init
unfolding chaining_value
loop-i-init c = (omega arith, c.start_state-v.ensures)

pub loop-i-preserved : goal.loop-i-preserved
unfolding chaining_value
loop-i-preserved c =
    let l = c.loop-i in
    let a = c.args in
    let m = message a.handed.bits (bit_of_bytes a.handed.bytes.now) in (
      omega arith,
      c.next_state-v.ensures
          ∙ ap (block (block_bits m l.i)) l.invariant.1
          ∙ ap (chaining_value m) (sym (add-one l.i)),
    )

pub returns : goal.returns
returns c =
    let l = c.loop-i in
    let a = c.args in
    let all : l.i ≡ a.k = omega arith in
    l.invariant.1 ∙ ap (chaining_value (message a.handed.bits (bit_of_bytes a.handed.bytes.now))) all
