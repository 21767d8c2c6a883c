-- Where A to H stand before round j. A to D move on by one place a round, and so do E to H: word `lag` of such four is the
-- first word of `lag` rounds before, or one that the block began with, and it is rotated on its way from place 1 to place 2.
use mathlib.Core.Path.{◌≡◌, refl, sym, ap, subst, ◌∙◌}
use Prim.Native.Nat.{ℕ, zero, suc, ◌+◌, ◌-◌, ◌*◌, ◌/◌, ◌%◌, ◌<◌, ◌≤◌}
use native.Mathlib.Nat.{div-add-mod}
use native.Mathlib.Omega.{arith}
use Rattle.block.specs.Bounds.{stands_before}
use Rattle.block.specs.Wires.{state_word, eight_from, moved, p0_at, p0_first, round_width, rounds_at, stands, tt1_at, tt1_first}
use Rattle.forms.specs.Positions.{rotated_by, standing}
use Rattle.forms.specs.declared.position.WordPosition.{WordPosition}

-- x is word `lag` of four before round j. The four began with the words from wire `base` on, round j makes the one that
-- stands from wire made + round_width * j on, and the rotation is by t.
pub record Placed (base made t j lag : ℕ) (x : WordPosition) : Type 0 where
  pub begun : j ≤ lag → x.first.0 ≡ base + 32 * (lag - j)
  pub later : lag < j → x.first.0 ≡ made + round_width * (j - 1 - lag)
  pub straight : lag < 2 → x.rotation ≡ 0
  pub early : j + 2 ≤ lag → x.rotation ≡ 0
  pub rotated : 2 ≤ lag → lag < j + 2 → x.rotation ≡ t

-- Four words that move on by one place a round.
record Four (base made t : ℕ) (x : ℕ → ℕ → WordPosition) : Type 0 where
  starts : (lag : ℕ) → lag < 4 → x 0 lag ≡ standing (base + 32 * lag)
  makes : (j : ℕ) → x (suc j) 0 ≡ standing (made + round_width * j)
  second : (j : ℕ) → x (suc j) 1 ≡ x j 0
  rotates : (j : ℕ) → x (suc j) 2 ≡ rotated_by t (x j 1)
  fourth : (j : ℕ) → x (suc j) 3 ≡ x j 2

module _ (base made t : ℕ) (l : t < 32) where
  placed_start : (lag : ℕ) → Placed base made t 0 lag (standing (base + 32 * lag))
  placed_start lag =
      record {
        begun = λ h. omega arith;
        later = λ h. absurd (omega arith);
        straight = λ h. refl;
        early = λ h. refl;
        rotated = λ h k. absurd (omega arith);
      }

  placed_made : (j : ℕ) → Placed base made t (suc j) 0 (standing (made + round_width * j))
  placed_made j =
      record {
        begun = λ h. absurd (omega arith);
        later = λ h. omega arith;
        straight = λ h. refl;
        early = λ h. refl;
        rotated = λ h k. absurd (omega arith);
      }

  placed_moved : (j lag : ℕ) (x : WordPosition) → (lag ≡ 1 → ⊥) → Placed base made t j lag x → Placed base made t (suc j) (suc lag) x
  placed_moved j lag x n p =
      record {
        begun = λ h. omega (arith, p.begun (omega arith));
        later = λ h. omega (arith, p.later (omega arith));
        straight = λ h. p.straight (omega arith);
        early = λ h. p.early (omega arith);
        rotated = λ h k. p.rotated (omega arith) (omega arith);
      }

  placed_rotated : (j : ℕ) (x : WordPosition) → Placed base made t j 1 x → Placed base made t (suc j) 2 (rotated_by t x)
  placed_rotated j x p =
      record {
        begun = λ h. omega (arith, p.begun (omega arith));
        later = λ h. omega (arith, p.later (omega arith));
        straight = λ h. absurd (omega arith);
        early = λ h. absurd (omega arith);
        rotated = λ h k. omega (arith, p.straight (omega arith));
      }

  four_placed : (x : ℕ → ℕ → WordPosition) → Four base made t x → (j lag : ℕ) → lag < 4 → Placed base made t j lag (x j lag)
  four_placed x f zero lag h = subst (Placed base made t 0 lag) (sym (f.starts lag h)) (placed_start lag)
  four_placed x f (suc j) zero h = subst (Placed base made t (suc j) 0) (sym (f.makes j)) (placed_made j)
  four_placed x f (suc j) (suc zero) h =
      subst (Placed base made t (suc j) 1) (sym (f.second j))
      (placed_moved j 0 (x j 0) (omega arith) (four_placed x f j 0 (omega arith)))
  four_placed x f (suc j) (suc (suc zero)) h =
      subst (Placed base made t (suc j) 2) (sym (f.rotates j))
      (placed_rotated j (x j 1) (four_placed x f j 1 (omega arith)))
  four_placed x f (suc j) (suc (suc (suc zero))) h =
      subst (Placed base made t (suc j) 3) (sym (f.fourth j))
      (placed_moved j 2 (x j 2) (omega arith) (four_placed x f j 2 (omega arith)))
  four_placed x f (suc j) (suc (suc (suc (suc lag)))) h = absurd (omega arith)

-- Word k of eight that stand one after the other.
pub eight-word : (w k : ℕ) → k < 8 → state_word (eight_from w) k ≡ standing (w + 32 * k)
unfolding eight_from
eight-word w zero h = let e : w ≡ w + 32 * 0 = omega arith in ap standing e
eight-word w (suc zero) h = refl
eight-word w (suc (suc zero)) h = refl
eight-word w (suc (suc (suc zero))) h = refl
eight-word w (suc (suc (suc (suc zero)))) h = refl
eight-word w (suc (suc (suc (suc (suc zero))))) h = refl
eight-word w (suc (suc (suc (suc (suc (suc zero)))))) h = refl
eight-word w (suc (suc (suc (suc (suc (suc (suc zero))))))) h = refl
eight-word w (suc (suc (suc (suc (suc (suc (suc (suc k)))))))) h = absurd (omega arith)

-- where round 0 makes the new word of the four: TT1 for A to D, P0(TT2) for E to H
abbrev pub made_at : ℕ → ℕ → ℕ
made_at F half = F + rounds_at + tt1_at + (p0_at - tt1_at) * half

module _ (F w : ℕ) where
  -- word `lag` of A to D, and of E to H
  word_of_half : ℕ → ℕ → ℕ → WordPosition
  word_of_half half j lag = state_word (stands F (eight_from w) j) (4 * half + lag)

  half_starts : (half lag : ℕ) → half < 2 → lag < 4 → word_of_half half 0 lag ≡ standing (w + 128 * half + 32 * lag)
  unfolding word_of_half stands
  half_starts half lag h l =
      let e : w + 32 * (4 * half + lag) ≡ w + 128 * half + 32 * lag = omega arith in
      eight-word w (4 * half + lag) (omega arith) ∙ ap standing e

  half_moves : (half : ℕ) → half < 2 → Four (w + 128 * half) (made_at F half) (9 + 10 * half) (word_of_half half)
  unfolding word_of_half moved stands
  half_moves zero h =
      record {
        starts = λ lag. half_starts 0 lag h;
        makes = λ j. let e : tt1_first F j ≡ made_at F 0 + round_width * j = omega arith in ap standing e;
        second = λ j. refl;
        rotates = λ j. refl;
        fourth = λ j. refl;
      }
  half_moves (suc zero) h =
      record {
        starts = λ lag. half_starts 1 lag h;
        makes = λ j. let e : p0_first F j ≡ made_at F 1 + round_width * j = omega arith in ap standing e;
        second = λ j. refl;
        rotates = λ j. refl;
        fourth = λ j. refl;
      }
  half_moves (suc (suc half)) h = absurd (omega arith)

  abbrev PlacedHalf : ℕ → ℕ → ℕ → WordPosition → Type 0
  PlacedHalf half j lag x = Placed (w + 128 * half) (made_at F half) (9 + 10 * half) j lag x

  pub word_placed : (j k : ℕ) → k < 8 → PlacedHalf (k / 4) j (k % 4) (state_word (stands F (eight_from w) j) k)
  unfolding word_of_half
  word_placed j k h =
      subst (λ (i : ℕ). PlacedHalf (k / 4) j (k % 4) (state_word (stands F (eight_from w) j) i)) (div-add-mod k 4)
      (four_placed _ _ _ (omega arith) (word_of_half (k / 4)) (half_moves (k / 4) (omega arith)) j (k % 4) (omega arith))

-- a word is known by its first wire and its rotation
pub word_known : (x : WordPosition) (w t : ℕ) → w ≡ x.first.0 → x.rotation ≡ t
    → ◌≡◌ {A = WordPosition} (record { first = record { 0 = w }; rotation = t }) x
word_known x w t e f = λ i. record { first = record { 0 = e i }; rotation = sym f i }

-- Word k of A to H before round j: where it begins, as long as it is one of those that the block began with, and later, and
-- how it is rotated in the three cases.
module _ (F b j k : ℕ) (h : k < 8) where
  pub begun_first : j ≤ k % 4 → (state_word (stands_before F b j) k).first.0 ≡ b + 128 * (k / 4) + 32 * (k % 4 - j)
  begun_first = (word_placed F b j k h).begun

  pub made_first : k % 4 < j → (state_word (stands_before F b j) k).first.0 ≡ made_at F (k / 4) + round_width * (j - 1 - k % 4)
  made_first = (word_placed F b j k h).later

  pub straight_word : k % 4 < 2 → standing (state_word (stands_before F b j) k).first.0 ≡ state_word (stands_before F b j) k
  straight_word l = word_known _ _ 0 refl ((word_placed F b j k h).straight l)

  pub early_word : j + 2 ≤ k % 4 → standing (state_word (stands_before F b j) k).first.0 ≡ state_word (stands_before F b j) k
  early_word l = word_known _ _ 0 refl ((word_placed F b j k h).early l)

  pub rotated_word : 2 ≤ k % 4 → k % 4 < j + 2
      → rotated_by (9 + 10 * (k / 4)) (standing (state_word (stands_before F b j) k).first.0) ≡ state_word (stands_before F b j) k
  rotated_word l m =
      let once : 9 + 10 * (k / 4) ≡ (0 + (9 + 10 * (k / 4))) % 32 = omega arith in
      word_known _ _ _ refl ((word_placed F b j k h).rotated l m ∙ once)
