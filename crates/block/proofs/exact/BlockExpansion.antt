-- The expansion of a block. Words 0 to 15 are carried by the block's bits. Given that the words before word j are carried, the
-- rows of q, P1(q) and Wj make those words one after the other, so that word j is carried too. So the rows of the first c words
-- hold exactly where the wires of those words agree. And where all words are carried, the rows of W' make theirs.
use mathlib.Core.Bool.{cond}
use mathlib.Core.List.{List}
use mathlib.Core.Logic.{◌↔◌}
use mathlib.Core.Path.{◌≡◌, ◌∙◌, ap, refl, subst, subst₂, sym}
use Prim.Native.Nat.{ℕ, ◌+◌, ◌-◌, ◌*◌, ◌<◌, ◌≤◌}
use native.Mathlib.Nat.{add_assoc}
use native.Mathlib.Omega.{arith}
use borrow.Author.Tests.{le-ltb, lt-ltb}
use lib.Dec.{lit<}
use lib.ListN.{get_or}
use Rattle.block.specs.BlockWires.{expansion_wires}
use Rattle.block.specs.StepForms.{p1_form, q_form, w_form, w_prime_form, word}
use Rattle.block.specs.Wires.{expansion_at, expansion_width, p1_first, w_primes_at, q_first, w_first, w_prime_first}
use Rattle.encoding.proofs.Sequence.{each_add}
use Rattle.encoding.specs.Sequence.{beside, grid}
use Rattle.forms.proofs.exact.Carries.{Carries, Makes, carries-rotated, carries-word, makes_xor_three, makes_xor_two, word_then}
use Rattle.forms.proofs.exact.Parts.{agree_at, agree_past, agree_row, each_at}
use Rattle.forms.proofs.exact.Runs.{Agree, Holds, Judged, each}
use Rattle.forms.proofs.exact.Words.{reads_standing}
use Rattle.forms.specs.Positions.{standing}
use Rattle.forms.specs.WordWires.{word_wires}
use Rattle.forms.specs.declared.form.Form.{Form}
use Rattle.sm3.proofs.Bounds.{expansion_lt}
use Rattle.sm3.proofs.WordBits.{bit-number}
use Rattle.sm3.proofs.expansion.FirstWords.{get_or-block, get_or-expanded}
use Rattle.sm3.specs.Sm3.{P1, block_word, expanded, expansion, mixed, w_prime}

-- the rows of word j: q, P1(q), Wj
unfoldable pub expansion_forms : ℕ → ℕ → ℕ → Form
expansion_forms F j = beside 64 (q_form F j) (beside 64 (p1_form F j) (w_form F j))

block-first : (F j : ℕ) → j < 16 → w_first F j ≡ F + 32 * j
block-first F j h = ap (λ t. cond t (F + 32 * j) (q_first F j + 64)) (lt-ltb j 16 h)

w_first_lem : (F j : ℕ) → 16 ≤ j → p1_first F j + 32 ≡ w_first F j
w_first_lem F j h = omega (arith, ap (λ t. cond t (F + 32 * j) (q_first F j + 64)) (le-ltb j 16 h))

q_first_lem : (F j : ℕ) → q_first F (16 + j) ≡ F + expansion_at + expansion_width * j
q_first_lem F j = omega arith

module _ (a : ℕ → ℕ) (J : Judged a) (F : ℕ) (b : ℕ → ℕ) where
  module _ (j : ℕ) (h : 16 ≤ j) (l : j < 68) (before : (i : ℕ) → i < j → Carries a (word F i) (get_or (expansion b 68) i 0)) where
    back : (k : ℕ) → 0 < k → Carries a (word F (j - k)) (get_or (expansion b 68) (j - k) 0)
    back k p = before (j - k) (omega arith)

    makes_q : Makes a 64 (q_form F j) (q_first F j) (mixed (expansion b 68) j)
    unfolding q_form mixed
    makes_q =
        makes_xor_three a J (back 16 (lit< tt)) (back 9 (lit< tt)) (carries-rotated a J 15 (lit< tt) (back 3 (lit< tt))) (q_first F j)

    makes_p1 : Carries a (standing (q_first F j)) (mixed (expansion b 68) j)
        → Makes a 64 (p1_form F j) (p1_first F j) (P1 (mixed (expansion b 68) j))
    unfolding p1_form P1
    makes_p1 cq = makes_xor_three a J cq (carries-rotated a J 15 (lit< tt) cq) (carries-rotated a J 23 (lit< tt) cq) (p1_first F j)

    makes_w : Carries a (standing (p1_first F j)) (P1 (mixed (expansion b 68) j))
        → Makes a 64 (w_form F j) (w_first F j) (get_or (expansion b 68) j 0)
    unfolding w_form expanded
    makes_w cp =
        subst (Makes a 64 (w_form F j) (w_first F j)) (sym (get_or-expanded b 68 j h l))
        (makes_xor_three a J cp (carries-rotated a J 7 (lit< tt) (back 13 (lit< tt))) (back 6 (lit< tt)) (w_first F j))

    word-run : Holds a 192 (expansion_forms F j) ↔ Agree a (q_first F j) expansion_width (expansion_wires (expansion b 68) j)
    unfolding expansion_forms expansion_wires
    word-run =
        word_then a J (p1_first F j) 128 64 _ _ refl makes_q
        (λ cq. word_then a J (w_first F j) 64 32 _ _ (w_first_lem F j h) (makes_p1 cq) (λ cp. (makes_w cp).run))

  module _ (bits : (k : ℕ) → k < 512 → b k < 2) (given : Agree a F 512 b) where
    -- the wires of word j, in the block and after it
    early_agrees : (j : ℕ) → j < 16 → Agree a (w_first F j) 32 (word_wires (get_or (expansion b 68) j 0))
    unfolding word_wires block_word
    early_agrees j h =
        subst₂ (λ w X. Agree a w 32 (word_wires X)) (sym (block-first F j h)) (sym (get_or-block b 68 j h (omega arith)))
        (λ i l.
        ap a (add_assoc F (32 * j) i) ∙ given (32 * j + i) (omega arith)
        ∙ sym (bit-number (λ i. b (32 * j + i)) i (λ i k. bits (32 * j + i) (omega arith)) l))

    late_agrees : (j : ℕ) → 16 ≤ j → Agree a (q_first F j) expansion_width (expansion_wires (expansion b 68) j)
        → Agree a (w_first F j) 32 (word_wires (get_or (expansion b 68) j 0))
    unfolding expansion_wires
    late_agrees j h e =
        agree_past a (p1_first F j) (w_first F j) 32 32 _ _ (w_first_lem F j h)
        (agree_past a (q_first F j) (p1_first F j) 32 64 _ _ refl e)

    carried : (j : ℕ) → Agree a (w_first F j) 32 (word_wires (get_or (expansion b 68) j 0))
        → Carries a (word F j) (get_or (expansion b 68) j 0)
    carried j e = record { below = expansion_lt b bits 68 j; reads = reads_standing a J (w_first F j) _ e }

    -- the words before word 16 + c
    words : (c : ℕ) → ((i : ℕ) → i < c → Agree a (q_first F (16 + i)) expansion_width (expansion_wires (expansion b 68) (16 + i)))
        → (j : ℕ) → j < 16 + c → Carries a (word F j) (get_or (expansion b 68) j 0)
    words c e =
        (each_add (λ j. Carries a (word F j) (get_or (expansion b 68) j 0)) 16 c).1 (
          λ j l. carried j (early_agrees j l),
          λ i l. carried (16 + i) (late_agrees (16 + i) (omega arith) (e i l)),
        )

    -- the first c words
    pub expansion-run : (c : ℕ) → c ≤ 52
        → (Holds a (c * 192) (grid 192 (λ j. expansion_forms F (16 + j)))
        ↔ Agree a (F + expansion_at) (c * expansion_width) (grid expansion_width (λ j. expansion_wires (expansion b 68) (16 + j))))
    expansion-run c m =
        each_at a (F + expansion_at) c 192 expansion_width (λ j. q_first F (16 + j)) _ _ (q_first_lem F)
        (λ j l earlier. word-run (16 + j) (omega arith) (omega arith) (words j earlier))

    pub words_carried : Agree a (F + expansion_at) (52 * expansion_width) (grid expansion_width (λ j. expansion_wires (expansion b 68) (16 + j)))
        → (j : ℕ) → j < 68 → Carries a (word F j) (get_or (expansion b 68) j 0)
    words_carried e = words 52 (λ i l. agree_at a _ _ expansion_width _ (sym (q_first_lem F i)) (agree_row a (F + expansion_at) 52 expansion_width _ e i l))

module _ (a : ℕ → ℕ) (J : Judged a) (F : ℕ) (w : List ℕ) (words : (j : ℕ) → j < 68 → Carries a (word F j) (get_or w j 0)) where
  makes_w_prime : (j : ℕ) → j < 64 → Makes a 32 (w_prime_form F j) (w_prime_first F j) (w_prime w j)
  unfolding w_prime_form w_prime
  makes_w_prime j l = makes_xor_two a J (words j (omega arith)) (words (j + 4) (omega arith)) (w_prime_first F j)

  -- the first c words
  pub w_primes-run : (c : ℕ) → c ≤ 64
      → (Holds a (c * 32) (grid 32 (w_prime_form F)) ↔ Agree a (F + w_primes_at) (c * 32) (grid 32 (λ j. word_wires (w_prime w j))))
  w_primes-run c m = each a (F + w_primes_at) c 32 32 _ _ (λ j l earlier. (makes_w_prime j (omega arith)).run)

  pub w_primes_carried : Agree a (F + w_primes_at) (64 * 32) (grid 32 (λ j. word_wires (w_prime w j)))
      → (j : ℕ) → j < 64 → Carries a (standing (w_prime_first F j)) (w_prime w j)
  w_primes_carried e j l = carries-word a J (makes_w_prime j l) (agree_row a (F + w_primes_at) 64 32 _ e j l)
