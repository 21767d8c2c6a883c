-- Before turn j the first j words are read. A word whose entries are not bits decides the answer.
use Rattle.std.proofs.Common.{ℕ, ◌+◌, ◌*◌, ◌<◌, List, length, get_or, set, sym, ◌∙◌, subst, arith, length-set, get_or-set_other, get_or-set_same, below_more}
use Rattle.agreement.proofs.Agreeing.{bits_lt}
use Rattle.agreement.specs.Agrees.{BitsOf, BitsOfWords}
use Rattle.agreement.proofs.word_read.read_words.Goals as goal

one_more : {w j x : ℕ} {words bytes : List ℕ} → j < length words → BitsOfWords w j words bytes → BitsOf (w + 32 * j) 32 x bytes
    → BitsOfWords w (j + 1) (set words j x) bytes
one_more {w} {j} {x} {words} {bytes} room h e =
    record {
      each =
          below_more (λ i. BitsOf (w + 32 * i) 32 (get_or (set words j x) i 0) bytes) j
          (λ i l.
          subst (λ y. BitsOf (w + 32 * i) 32 y bytes) (sym (get_or-set_other words j i x 0 (λ same. omega arith))) (h.each i l))
          (subst (λ y. BitsOf (w + 32 * j) 32 y bytes) (sym (get_or-set_same words j x 0 room)) e);
    }

pub overflow_cast-word : goal.overflow_cast-word
overflow_cast-word g c = omega (arith, bits_lt (c.read_standing-s.ensures (omega (arith, c.if-s-gt1.false))))

pub loop-j-preserved : goal.loop-j-preserved
loop-j-preserved g c =
    let l = c.loop-j in (
      omega arith,
      length-set l.word-items l.j _ ∙ l.invariant.1,
      one_more (omega (arith, l.invariant.1)) l.invariant.2 (c.read_standing-s.ensures (omega (arith, c.if-s-gt1.false))),
    )
