-- Where the words of a block stand. Before round j the words A to H stand among the 256 wires from b on, which
-- lie before the block, or among those of the rounds before, and no two of them overlap.
use mathlib.Core.Logic.{by_cases}
use mathlib.Core.Path.{◌≡◌}
use Prim.Native.Nat.{ℕ, ◌+◌, ◌-◌, ◌*◌, ◌/◌, ◌%◌, ◌<◌, ◌≤◌}
use native.Mathlib.Decide.{dec_lt}
use native.Mathlib.Omega.{arith}
use borrow.Author.Tests.{ltb-false, ltb-true}
use lib.Dec.{ltb}
use Rattle.block.proofs.wire.Placed.{made_at, word_placed}
use Rattle.block.specs.Bounds.{stands_before}
use Rattle.block.specs.Wires.{state_word, round_width, rounds_at, u_first, w_first}
use Rattle.forms.proofs.shape.All.{of_cond}
use Rattle.forms.proofs.shape.Clear.{Clear, ClearWords}
use Rattle.forms.specs.declared.position.WordPosition.{WordPosition}

-- Wj, in one formula for the block's own words and for the expanded ones
pub w_stands : (F j : ℕ) → w_first F j ≡ F + 32 * j + 64 * (j - 15)
w_stands F j =
    of_cond (λ (w : ℕ). w ≡ F + 32 * j + 64 * (j - 15)) (ltb j 16) (λ t. omega (arith, ltb-true j 16 t))
    (λ t. omega (arith, ltb-false j 16 t))

-- word k of A to H before round j
abbrev pub before : ℕ → ℕ → ℕ → ℕ → WordPosition
before F b j k = state_word (stands_before F b j) k

-- a word that stood before round j of the block whose first wire is F
pub record Older (F j : ℕ) (x : WordPosition) : Type 0 where
  pub low : 1 ≤ x.first.0
  pub clear : Clear x.first.0 32 F rounds_at
  pub high : x.first.0 + 32 ≤ u_first F j

module _ (F b j : ℕ) (low : 1 ≤ b) (lies : b + 256 ≤ F) where
  -- made by a round before, or one of the eight that the block began with
  made_or_begun : {C : Type 0} (k : ℕ) → k < 8
      → (k % 4 < j → (before F b j k).first.0 ≡ made_at F (k / 4) + round_width * (j - 1 - k % 4) → C)
      → (j ≤ k % 4 → (before F b j k).first.0 + 32 * j ≡ b + 32 * k → C) → C
  made_or_begun k h made begun =
      let placed = word_placed F b j k h in
      by_cases (dec_lt (k % 4) j)
      (λ l. made l (placed.later l))
      (λ l.
      let early : j ≤ k % 4 = omega arith in
      begun early (omega (arith, placed.begun early)))

  pub before_older : (k : ℕ) → k < 8 → Older F j (before F b j k)
  before_older k h = made_or_begun k h (λ l e. omega arith) (λ l e. omega arith)

  pub before_made : (k : ℕ) → k < 8 → 4 ≤ j → F + rounds_at ≤ (before F b j k).first.0
  before_made k h l = omega (arith, (word_placed F b j k h).later (omega arith))

  pub before_clear : (k i : ℕ) → k < i → i < 8 → ClearWords (before F b j k) (before F b j i)
  before_clear k i h l =
      made_or_begun k (omega arith)
      (λ a e. made_or_begun i l (λ b f. by_cases (dec_lt (k / 4) (i / 4)) (λ u. omega arith) (λ u. omega arith)) (λ b f. omega arith))
      (λ a e. made_or_begun i l (λ b f. omega arith) (λ b f. omega arith))
