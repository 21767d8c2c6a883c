-- The one walk through the layout of the rows. A relation between two sequences of n rows that passes from runs to the runs one
-- after the other, and from rows of a grid to the grid, holds of all rows of a circuit once it holds of each word's.
use mathlib.Core.Path.{◌≡◌, ap₂, fun_ext, subst, subst₂}
use Prim.Native.Nat.{ℕ, ◌+◌, ◌*◌, ◌/◌, ◌%◌, ◌<◌}
use native.Mathlib.Nat.{mul_comm, mul-one}
use native.Mathlib.Omega.{arith}
use Rattle.block.proofs.place.WordByWord.{block_by_word}
use Rattle.block.specs.Ranges.{InStep}
use Rattle.block.specs.Steps.{block_layout, block_rows, lines}
use Rattle.block.specs.declared.step.Step.TheVariants.{Appended, Digest, Start}
use Rattle.block.specs.declared.step.Step.{Step}
use Rattle.circuit.specs.Places.{frame_layout, frame_rows}
use Rattle.encoding.specs.Sequence.{beside, grid}

-- rows of one element each
grid-one : {A : Type 0} (f : ℕ → ℕ → A) → grid 1 f ≡ (λ k. f k 0)
unfolding grid
grid-one f =
    fun_ext
    (λ k.
    let row : k / 1 ≡ k = omega arith in
    let first : k % 1 ≡ 0 = omega arith in
    ap₂ f row first)

module _ {A B : Type 0} (R : ℕ → (ℕ → A) → (ℕ → B) → Type 0)
    (then : (n m : ℕ) (f g : ℕ → A) (f' g' : ℕ → B) → R n f f' → R m g g' → R (n + m) (beside n f g) (beside n f' g'))
    (rows : (c m : ℕ) (f : ℕ → ℕ → A) (f' : ℕ → ℕ → B) → ((j : ℕ) → j < c → R m (f j) (f' j)) → R (c * m) (grid m f) (grid m f'))
  where
    module _ (c m : ℕ) (some : 0 < c) (w : Step → ℕ → ℕ → ℕ → A) (v : Step → ℕ → ℕ → ℕ → B)
        (word : (s : Step) (i j : ℕ) → i < c → ((l : ℕ) → l < lines s j → InStep m s j l) → R (lines s j) (w s i j) (v s i j)) where
      blocks : R (block_rows * c) (grid block_rows (λ i. block_layout (λ s. w s i))) (grid block_rows (λ i. block_layout (λ s. v s i)))
      blocks =
          subst (λ n. R n (grid block_rows (λ i. block_layout (λ s. w s i))) (grid block_rows (λ i. block_layout (λ s. v s i)))) (mul_comm c block_rows)
          (rows c block_rows _ _ (λ i a. block_by_word R then rows m (λ s. w s i) (λ s. v s i) (λ s j h. word s i j a h)))

      appended : R m (λ k. w Appended 0 k 0) (λ k. v Appended 0 k 0)
      appended =
          subst₂ (R m) (grid-one (w Appended 0)) (grid-one (v Appended 0))
          (subst (λ n. R n (grid 1 (w Appended 0)) (grid 1 (v Appended 0))) (mul-one m)
          (rows m 1 _ _ (λ j a. word Appended 0 j some (λ l h. omega arith))))

      pub word_by_word : R (frame_rows c m) (frame_layout c w) (frame_layout c v)
      unfolding frame_layout
      word_by_word =
          let all : 256 + (block_rows * c + (256 + m)) ≡ frame_rows c m = omega arith in
          subst (λ n. R n (frame_layout c w) (frame_layout c v)) all
          (then 256 (block_rows * c + (256 + m)) _ _ _ _ (rows 8 32 _ _ (λ j a. word Start 0 j some (λ l h. omega arith)))
          (then (block_rows * c) (256 + m) _ _ _ _ blocks
          (then 256 m _ _ _ _ (rows 8 32 _ _ (λ j a. word Digest 0 j some (λ l h. omega arith))) appended)))
