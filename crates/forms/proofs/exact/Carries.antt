-- Words that wires carry: the wires have the word's bits, and the word is below 2^32. What a step computes from carried words is
-- again a word, so its rows make that word: they hold exactly where its wires agree, and those wires then carry it to the
-- steps after it.
use Rattle.std.proofs.Common.{◌≡◌, ℕ, ◌+◌, ◌^◌, ◌<◌, Bool, true, false, cond, ◌↔◌, arith}
use lib.Bits.{xor_lt}
use Rattle.encoding.specs.Sequence.{beside}
use Rattle.forms.proofs.exact.Parts.{then_at}
use Rattle.forms.proofs.exact.Runs.{Agree, Holds, Judged, Reads}
use Rattle.forms.proofs.exact.Words.{choice-word, majority-word, reads_standing, reads_sum, reads_rotated, sum-four, sum-two, xor_three, xor_two}
use Rattle.forms.specs.Positions.{standing, rotated_by}
use Rattle.forms.specs.WordForms.{choice_of, four, paired, summed, two, xor_of_two}
use Rattle.forms.specs.WordWires.{sum_wires, word_wires}
use Rattle.forms.specs.declared.form.Form.TheVariants.{XorOfThree, Majority}
use Rattle.forms.specs.declared.form.Form.{Form}
use Rattle.forms.specs.declared.position.WordPosition.{WordPosition}
use Rattle.sm3.proofs.Bounds.{choice_lt, truncated_lt, majority_lt}
use Rattle.sm3.proofs.Rotation.{rotate_lt}
use Rattle.sm3.specs.Sm3.{choice, truncated, majority, ◌⊕◌}
use Rattle.sm3.specs.Words.{rotate_left}

pub record Carries (a : ℕ → ℕ) (x : WordPosition) (X : ℕ) : Type 0 where
  pub below : X < 2 ^ 32
  pub reads : Reads a x X

-- the n rows f make the word X on the 32 wires from w on
pub record Makes (a : ℕ → ℕ) (n : ℕ) (f : ℕ → Form) (w X : ℕ) : Type 0 where
  pub below : X < 2 ^ 32
  pub run : Holds a n f ↔ Agree a w 32 (word_wires X)

module _ (a : ℕ → ℕ) (J : Judged a) where
  pub carries-rotated : {x : WordPosition} {X : ℕ} (k : ℕ) → k < 32 → Carries a x X → Carries a (rotated_by k x) (rotate_left k X)
  carries-rotated {x} {X} k h c =
      record {
        below = rotate_lt k X (omega arith) c.below;
        reads = reads_rotated a J x X k c.below h c.reads;
      }

  pub carries-word : {n : ℕ} {f : ℕ → Form} {w X : ℕ} → Makes a n f w X → Agree a w 32 (word_wires X) → Carries a (standing w) X
  carries-word {n} {f} {w} {X} m e = record { below = m.below; reads = reads_standing a J w X e }

  pub carries-truncated : (w s : ℕ) → Agree a w 34 (sum_wires s) → Carries a (standing w) (truncated s)
  carries-truncated w s e = record { below = truncated_lt s; reads = reads_sum a J w s e }

  -- a word's rows and then those that follow, at u, which may use that the word is carried
  pub word_then : {n : ℕ} {f : ℕ → Form} {w X : ℕ} (u m m' : ℕ) (g : ℕ → Form) (t : ℕ → ℕ) → w + 32 ≡ u → Makes a n f w X
      → (Carries a (standing w) X → (Holds a m g ↔ Agree a u m' t))
      → (Holds a (n + m) (beside n f g) ↔ Agree a w (32 + m') (beside 32 (word_wires X) t))
  word_then {n} {f} {w} {X} u m m' g t e made rest =
      then_at a w u n m 32 m' f g (word_wires X) t e made.run (λ h. rest (carries-word made h))

  -- .. and a sum's rows
  pub sum_then : (w u n m m' s : ℕ) (f g : ℕ → Form) (t : ℕ → ℕ) → w + 34 ≡ u → (Holds a n f ↔ Agree a w 34 (sum_wires s))
      → (Carries a (standing w) (truncated s) → (Holds a m g ↔ Agree a u m' t))
      → (Holds a (n + m) (beside n f g) ↔ Agree a w (34 + m') (beside 34 (sum_wires s) t))
  sum_then w u n m m' s f g t e sum rest =
      then_at a w u n m 34 m' f g (sum_wires s) t e sum (λ h. rest (carries-truncated w s h))

  module _ {x y : WordPosition} {X Y : ℕ} (cx : Carries a x X) (cy : Carries a y Y) where
    pub makes_xor_two : (r : ℕ) → Makes a 32 (xor_of_two x y (standing r)) r (X ⊕ Y)
    makes_xor_two r =
        record {
          below = xor_lt 32 X Y cx.below cy.below;
          run = xor_two a J x y X Y cx.below cy.below cx.reads cy.reads r;
        }

    pub sum-two-run : (c r : ℕ) → c < 2 ^ 32 → (Holds a 35 (summed (two x y) c r) ↔ Agree a r 34 (sum_wires (X + Y + c)))
    sum-two-run = sum-two a J x y X Y cx.below cy.below cx.reads cy.reads

    module _ {z : WordPosition} {Z : ℕ} (cz : Carries a z Z) where
      pub makes_xor_three : (r : ℕ) → Makes a 64 (paired XorOfThree x y z (standing r)) r (X ⊕ Y ⊕ Z)
      makes_xor_three r =
          record {
            below = xor_lt 32 (X ⊕ Y) Z (xor_lt 32 X Y cx.below cy.below) cz.below;
            run = xor_three a J x y X Y cx.below cy.below cx.reads cy.reads z Z cz.below cz.reads r;
          }

      -- FF and GG, where t says whether the round is one of the first sixteen

      pub makes_ff : (t : Bool) (r : ℕ)
          → Makes a 64 (paired (cond t XorOfThree Majority) x y z (standing r)) r (cond t (X ⊕ Y ⊕ Z) (majority X Y Z))
      makes_ff true r = makes_xor_three r
      makes_ff false r =
          record {
            below = majority_lt X Y Z cx.below cy.below cz.below;
            run = majority-word a J x y X Y cx.below cy.below cx.reads cy.reads z Z cz.below cz.reads r;
          }

      pub makes_gg : (t : Bool) (r : ℕ)
          → Makes a (cond t 64 32) (cond t (paired XorOfThree x y z (standing r)) (choice_of x y z (standing r))) r
          (cond t (X ⊕ Y ⊕ Z) (choice X Y Z))
      makes_gg true r = makes_xor_three r
      makes_gg false r =
          record {
            below = choice_lt X Y Z cx.below cy.below cz.below;
            run = choice-word a J x y X Y cx.below cy.below cx.reads cy.reads z Z cz.below cz.reads r;
          }

      pub sum-four-run : {t : WordPosition} {T : ℕ} → Carries a t T → (r : ℕ)
          → (Holds a 35 (summed (four x y z t) 0 r) ↔ Agree a r 34 (sum_wires (X + Y + Z + T)))
      sum-four-run {t} {T} ct =
          sum-four a J x y X Y cx.below cy.below cx.reads cy.reads z Z cz.below cz.reads t T ct.below ct.reads
