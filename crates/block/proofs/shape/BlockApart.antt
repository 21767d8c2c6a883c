-- The rows of a block whose first wire is F, and which begins with the words from wire b on, join wires that are apart: the words of the expansion, of W' and of the rounds stand one after the
-- other, in the order of the layout, and A to H stand before them all or among those of earlier rounds.
use mathlib.Core.Bool.{cond}
use mathlib.Core.List.{[], ◌∷◌}
use mathlib.Core.Path.{subst}
use Prim.Native.Nat.{ℕ, ◌+◌, ◌-◌, ◌<◌, ◌≤◌}
use native.Mathlib.Omega.{arith}
use lib.Dec.{ltb}
use Rattle.block.proofs.shape.Standing.{Older, before, before_clear, before_made, before_older, w_stands}
use Rattle.block.proofs.wire.Placed.{eight-word}
use Rattle.block.specs.Bounds.{stands_before}
use Rattle.block.specs.Ranges.{In}
use Rattle.block.specs.StepForms.{ff_form, gg_form, p0_form, p1_form, q_form, result_form, ss2_form, tt1_form, tt2_form, u_form, w_form, w_prime_form}
use Rattle.block.specs.Steps.{lines}
use Rattle.block.specs.Wires.{eight_from, ff_first, gg_first, p0_first, p1_first, q_first, rounds_at, tt1_first, tt2_first, u_first, wires_per_block}
use Rattle.block.specs.declared.step.Step.TheVariants.{Gg}
use Rattle.forms.proofs.shape.All.{of_cond}
use Rattle.forms.proofs.shape.Apart.{Apart}
use Rattle.forms.proofs.shape.Clear.{ClearWords}
use Rattle.forms.proofs.shape.Rises.{nonzero-length}
use Rattle.forms.proofs.shape.SumApart.{ApartSum}
use Rattle.forms.proofs.shape.WordApart.{ApartWords, choice_apart, clear_words, pair_apart, sum_apart, xor_of_three_apart, xor_of_two_apart}
use Rattle.forms.specs.Positions.{one, rotated_by, standing}
use Rattle.forms.specs.Rows.{◌·◌, nonzero}
use Rattle.forms.specs.WordForms.{paired, two}
use Rattle.forms.specs.declared.form.Form.TheVariants.{XorOfThree}
use Rattle.forms.specs.declared.form.Form.{Form}
use Rattle.forms.specs.declared.position.WordPosition.{WordPosition}
use Rattle.refusal.specs.declared.numbers.WireNumber.{WireNumber}
use Rattle.sm3.proofs.Bounds.{rotated_constant_lt}
use Rattle.sm3.specs.Sm3.{rotated_constant}

-- a word and the same rotated by `near` and by `far`, and a result past it
permuted_apart : (m from near far to l : ℕ)
    → (1 ≤ near) × (near < far) × (far < 32) × (1 ≤ from) × (from + 32 ≤ to) × (to + 32 ≤ m) → l < 64
    → Apart m (paired XorOfThree (standing from) (rotated_by near (standing from)) (rotated_by far (standing from)) (standing to) l)
permuted_apart m from near far to l h low = xor_of_three_apart m _ _ _ _ (omega arith) l low

module _ (m F b : ℕ) (low : 1 ≤ b) (lies : b + 256 ≤ F) (last : F + wires_per_block ≤ m) where
  -- The expansion.

  module _ (j l : ℕ) (h : In 16 68 64 j l) where
    pub q_apart : Apart m (q_form F j l)
    unfolding q_form
    q_apart = xor_of_three_apart m _ _ _ _ (omega (arith, w_stands F (j - 16), w_stands F (j - 9), w_stands F (j - 3))) l h.2

    pub p1_apart : Apart m (p1_form F j l)
    unfolding p1_form
    p1_apart = permuted_apart m (q_first F j) 15 23 (p1_first F j) l (omega arith) h.2

    pub w_apart : Apart m (w_form F j l)
    unfolding w_form
    w_apart = xor_of_three_apart m _ _ _ _ (omega (arith, w_stands F (j - 13), w_stands F (j - 6), w_stands F j)) l h.2

  pub w_prime_apart : (j l : ℕ) → In 0 64 32 j l → Apart m (w_prime_form F j l)
  unfolding w_prime_form
  w_prime_apart j l h = xor_of_two_apart m _ _ _ l h.2 (omega (arith, w_stands F j, w_stands F (j + 4)))

  -- Round j.

  module _ (j : ℕ) (round : j < 64) where
    -- word k of A to H
    older : (k : ℕ) → k < 8 → Older F j (before F b j k)
    older k = before_older F b j low lies k

    clear : (k i : ℕ) → k < i → i < 8 → ClearWords (before F b j k) (before F b j i)
    clear k i = before_clear F b j low lies k i

    -- three of them and a word of the round at r
    three_words : (k r : ℕ) → k < 6 → u_first F j ≤ r → r + 32 ≤ m
        → ApartWords m (before F b j k ∷ before F b j (k + 1) ∷ before F b j (k + 2) ∷ standing r ∷ [])
    three_words k r h a b =
        let x = older k (omega arith) in
        let y = older (k + 1) (omega arith) in
        let z = older (k + 2) (omega arith) in
        clear_words m _ (omega arith) (
          (clear k (k + 1) (omega arith) (omega arith), (clear k (k + 2) (omega arith) (omega arith), omega arith)),
          ((clear (k + 1) (k + 2) (omega arith) (omega arith), omega arith), omega arith),
        )

    -- the sum at r of two words x and z of the round, one of them, and a word t of the block from before the rounds
    four_sums : (k r : ℕ) (x z t : WordPosition) → k < 8
        → (u_first F j ≤ z.first.0) × (z.first.0 + 32 ≤ x.first.0) × (x.first.0 + 32 ≤ r) × (r + 34 ≤ m)
        → (F ≤ t.first.0) × (t.first.0 + 32 ≤ F + rounds_at) → ApartSum m (x ∷ before F b j k ∷ z ∷ t ∷ []) 0 r
    unfolding nonzero
    four_sums k r x z t h a b =
        let y = older k h in
        record {
          words = omega arith;
          apart = (omega arith, ((omega arith, (λ g. omega (arith, y.clear (omega arith)), tt)), omega arith));
          result = omega arith;
          constant = omega arith;
          few = omega arith;
        }

    pub u_apart : (l : ℕ) → Apart m (u_form F (stands_before F b j) j l)
    unfolding u_form
    u_apart l =
        let x = older 0 (omega arith) in
        let y = older 4 (omega arith) in
        sum_apart m (two (rotated_by 12 (before F b j 0)) (before F b j 4)) (rotated_constant j) (u_first F j) l
        (record {
          words = omega arith;
          apart = ((clear 0 4 (omega arith) (omega arith), tt), (tt, tt));
          result = omega arith;
          constant = rotated_constant_lt j;
          few = omega (arith, nonzero-length (rotated_constant j · one ∷ []));
        })

    pub ss2_apart : (l : ℕ) → l < 32 → Apart m (ss2_form F (stands_before F b j) j l)
    unfolding ss2_form
    ss2_apart l h =
        let x = older 0 (omega arith) in
        xor_of_two_apart m _ _ _ l h (omega arith)

    pub ff_apart : (l : ℕ) → l < 64 → Apart m (ff_form F (stands_before F b j) j l)
    unfolding ff_form
    ff_apart l h =
        pair_apart m _ _ _ _ (three_words 0 (ff_first F j) (omega arith) (omega arith) (omega arith)) _
        (λ x y z r w. of_cond (λ (e : WireNumber → WireNumber → WireNumber → WireNumber → Form). Apart m (e x y z r)) (ltb j 16) (λ t. w) (λ t. w)) l h

    pub gg_apart : (l : ℕ) → l < lines Gg j → Apart m (gg_form F (stands_before F b j) j l)
    unfolding gg_form
    gg_apart l h =
        let words = three_words 4 (gg_first F j) (omega arith) (omega arith) (omega arith) in
        of_cond (λ (f : ℕ → Form). Apart m (f l)) (ltb j 16)
        (λ t. xor_of_three_apart m _ _ _ _ words l (subst (λ b. l < cond b 64 32) t h))
        (λ t. choice_apart m _ _ _ _ words l (subst (λ b. l < cond b 64 32) t h))

    pub tt1_apart : (l : ℕ) → Apart m (tt1_form F (stands_before F b j) j l)
    unfolding tt1_form
    tt1_apart l =
        sum_apart m _ 0 (tt1_first F j) l
        (four_sums 3 (tt1_first F j) _ _ _ (omega arith) (omega arith) (omega arith))

    pub tt2_apart : (l : ℕ) → Apart m (tt2_form F (stands_before F b j) j l)
    unfolding tt2_form
    tt2_apart l =
        sum_apart m _ 0 (tt2_first F j) l
        (four_sums 7 (tt2_first F j) _ _ _ (omega arith) (omega arith) (omega (arith, w_stands F j)))

    pub p0_apart : (l : ℕ) → l < 64 → Apart m (p0_form F j l)
    unfolding p0_form
    p0_apart l h = permuted_apart m (tt2_first F j) 9 17 (p0_first F j) l (omega arith) h

  pub result_apart : (k l : ℕ) → k < 8 → l < 32 → Apart m (result_form F (eight_from b) k l)
  unfolding result_form
  result_apart k l h line =
      let x = before_older F b 64 low lies k h in
      let y = before_made F b 64 low lies k h (omega arith) in
      rw (eight-word b k h) (xor_of_two_apart m _ _ _ l line (omega arith))
