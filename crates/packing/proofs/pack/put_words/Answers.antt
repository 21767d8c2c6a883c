-- Before each turn the words from word j on are packed; a turn writes the four bytes before them.
use mathlib.Core.List.{List}
use mathlib.Core.Path.{◌≡◌, sym}
use Prim.Native.Nat.{ℕ, ◌*◌, ◌<◌}
use native.Mathlib.Omega.{arith}
use Rattle.assignment.specs.Assignment.{entry}
use Rattle.encoding.proofs.Bytes.{length-highest_first}
use Rattle.encoding.proofs.Written.{length-written, written_as, written-before, written_none}
use Rattle.packing.proofs.WordBytes.{all_words, no_words, one_word_more}
use Rattle.agreement.proofs.Agreeing.{bits_lt}
use Rattle.agreement.specs.Agrees.{Bits}
use Rattle.packing.proofs.pack.put_words.Goals as goal

-- the 32 wires of word j are bits
word-bits : {bytes : List ℕ} {words j : ℕ} → ((w : ℕ) → w < 32 * words → entry bytes w < 2) → j < words → Bits (32 * j) 32 bytes
word-bits bits l = record { each = λ i h. bits _ (omega arith) }

pub loop-j-init : goal.loop-j-init
loop-j-init c =
    let a = c.args in
    (omega arith, written_as (sym (no_words (entry a.assignment.now) a.words)) (written_none _ _))

pub overflow_cast-x : goal.overflow_cast-x
overflow_cast-x c =
    omega (arith, bits_lt (c.number_from-x.ensures (word-bits c.requires.2 (omega arith))))

pub put_word-requires : goal.put_word-requires
put_word-requires c = omega (arith, length-written c.loop-j.invariant.1)

pub loop-j-preserved : goal.loop-j-preserved
loop-j-preserved c =
    let j = c.loop-j.j in
    let read = c.number_from-x.ensures (word-bits c.requires.2 (omega arith)) in (
      omega arith,
      written_as
          (one_word_more (entry c.args.assignment.now) c.args.words j _ c.loop-j-test.true c.loop-j.invariant.0 read.bits read.value)
          (written-before (4 * j) (omega (arith, length-highest_first 4 c.number_from-x.result)) c.loop-j.invariant.1 c.put_word.ensures),
    )

pub shape_of-out : goal.shape_of-out
shape_of-out c = length-written c.loop-j.invariant.1

pub returns : goal.returns
returns c =
    let l = c.loop-j in
    let none : l.j ≡ 0 = omega arith in
    written_as (all_words (entry c.args.assignment.now) c.args.words) (rw none at l.invariant.1)
