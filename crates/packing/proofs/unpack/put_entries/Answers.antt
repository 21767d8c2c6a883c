-- Before turn j the entries of the first j words of each half are written; a turn writes those of one word more of each.
use mathlib.Core.List.{List}
use mathlib.Core.Path.{◌≡◌, ◌∙◌, ap}
use Prim.Native.Nat.{ℕ, ◌+◌, ◌*◌, ◌<◌}
use native.Mathlib.Omega.{arith}
use Rattle.assignment.proofs.Writes.{length-wrote}
use Rattle.encoding.proofs.Bits.{bit_of_bytes_lt}
use Rattle.encoding.specs.Bits.{bit_of_bytes, number}
use Rattle.forms.specs.WordWires.{word_wires}
use Rattle.packing.proofs.unpack.Halves.{both_halves, length_halves, no_word, one-word_each}
use Rattle.sm3.proofs.WordBits.{bit-number}
use Rattle.sm3.specs.Words.{bit}
use Rattle.packing.proofs.unpack.put_entries.Goals as goal

-- the wires of the word are the bits that it was read from
word-bits : (packed : List ℕ) (j x : ℕ) → x ≡ number 32 (λ i. bit_of_bytes packed (8 * (4 * j) + i))
    → (k : ℕ) → k < 32 → word_wires x k ≡ bit_of_bytes packed (32 * j + k)
unfolding word_wires
word-bits packed j x e k l =
    let place : 8 * (4 * j) ≡ 32 * j = omega arith in
    ap (bit k) e ∙ bit-number (λ i. bit_of_bytes packed (8 * (4 * j) + i)) k (λ i h. bit_of_bytes_lt packed _) l
    ∙ ap (λ n. bit_of_bytes packed (n + k)) place

pub loop-j-init : goal.loop-j-init
loop-j-init c = (omega arith, no_word _ _ _)

pub put_word-requires : goal.put_word-requires
put_word-requires c = omega (arith, length_halves c.loop-j.invariant.1)

pub put_word-requires-in-loop-j : goal.put_word-requires-in-loop-j
put_word-requires-in-loop-j c =
    omega (arith, length-wrote c.put_word.ensures, length_halves c.loop-j.invariant.1)

pub loop-j-preserved : goal.loop-j-preserved
loop-j-preserved c =
    let a = c.args in
    let packed = a.packed.now in
    let j = c.loop-j.j in (
      omega arith,
      one-word_each c.loop-j-test.true c.loop-j.invariant.1 (word-bits packed j _ c.word_at-x.ensures) c.put_word.ensures
          (word-bits packed (a.half + j) _ c.word_at-y.ensures) c.put_word-in-loop-j.ensures,
    )

pub shape_of-out : goal.shape_of-out
shape_of-out c = length_halves c.loop-j.invariant.1

pub returns : goal.returns
returns c =
    let all : c.loop-j.j ≡ c.args.half = omega arith in
    both_halves (rw all at c.loop-j.invariant.1)
