-- The one walk through the layout of a block's rows. A relation between two sequences of n rows that passes from runs to the runs one
-- after the other, and from rows of a grid to the grid, holds of all rows of a block once it holds of each word's.
use mathlib.Core.Bool.{cond}
use mathlib.Core.Path.{◌≡◌, ap, subst}
use Prim.Native.Nat.{ℕ, ◌+◌, ◌*◌, ◌<◌, ◌≤◌}
use native.Mathlib.Omega.{arith}
use borrow.Author.Tests.{le-ltb, lt-ltb}
use Rattle.block.specs.Ranges.{InStep}
use Rattle.block.specs.Steps.{block_layout, block_rows, computed_rows, expansion_layout, lines, round_layout, rounds_layout}
use Rattle.block.specs.declared.step.Step.TheVariants.{Gg}
use Rattle.block.specs.declared.step.Step.{Step}
use Rattle.encoding.specs.Sequence.{beside, grid}

module _ {A B : Type 0} (R : ℕ → (ℕ → A) → (ℕ → B) → Type 0)
    (then : (n m : ℕ) (f g : ℕ → A) (f' g' : ℕ → B) → R n f f' → R m g g' → R (n + m) (beside n f g) (beside n f' g'))
    (rows : (c m : ℕ) (f : ℕ → ℕ → A) (f' : ℕ → ℕ → B) → ((j : ℕ) → j < c → R m (f j) (f' j)) → R (c * m) (grid m f) (grid m f'))
  where
    module _ (m : ℕ) (w : Step → ℕ → ℕ → A) (v : Step → ℕ → ℕ → B)
        (word : (s : Step) (j : ℕ) → ((l : ℕ) → l < lines s j → InStep m s j l) → R (lines s j) (w s j) (v s j)) where
      expansion : (j : ℕ) → 16 ≤ j → j < 68 → R 192 (expansion_layout w j) (expansion_layout v j)
      unfolding expansion_layout
      expansion j a b =
          then 64 128 _ _ _ _ (word _ j (λ l h. omega arith))
          (then 64 64 _ _ _ _ (word _ j (λ l h. omega arith)) (word _ j (λ l h. omega arith)))

      round : (j : ℕ) → j < 64 → (g : ℕ) → lines Gg j ≡ g → R (35 + (32 + (64 + (g + 134)))) (round_layout w j) (round_layout v j)
      unfolding round_layout
      round j a g e =
          subst (λ g. R (35 + (32 + (64 + (g + 134)))) (round_layout w j) (round_layout v j)) e
          (then 35 _ _ _ _ _ (word _ j (λ l h. omega arith))
          (then 32 _ _ _ _ _ (word _ j (λ l h. omega arith))
          (then 64 _ _ _ _ _ (word _ j (λ l h. omega arith))
          (then (lines Gg j) _ _ _ _ _ (word _ j (λ l h. (omega arith, a, h)))
          (then 35 99 _ _ _ _ (word _ j (λ l h. omega arith))
          (then 35 64 _ _ _ _ (word _ j (λ l h. omega arith)) (word _ j (λ l h. omega arith))))))))

      rounds : R 19520 (rounds_layout w) (rounds_layout v)
      unfolding rounds_layout
      rounds =
          then 5264 14256 _ _ _ _
          (rows 16 329 _ _ (λ j a. round j (omega arith) 64 (ap (λ t. cond t 64 32) (lt-ltb j 16 a))))
          (rows 48 297 _ _ (λ j a. round (16 + j) (omega arith) 32 (ap (λ t. cond t 64 32) (le-ltb (16 + j) 16 (omega arith)))))

      pub block_by_word : R block_rows (block_layout w) (block_layout v)
      unfolding block_layout
      block_by_word =
          then 512 computed_rows _ _ _ _ (rows 16 32 _ _ (λ j a. word _ j (λ l h. omega arith)))
          (then 9984 21824 _ _ _ _ (rows 52 192 _ _ (λ j a. expansion (16 + j) (omega arith) (omega arith)))
          (then 2048 19776 _ _ _ _ (rows 64 32 _ _ (λ j a. word _ j (λ l h. omega arith)))
          (then 19520 256 _ _ _ _ rounds (rows 8 32 _ _ (λ j a. word _ j (λ l h. omega arith))))))
