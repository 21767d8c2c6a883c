-- Which step of the hash a row stands for (document 01, "Rows": "Order: 256 fixed start rows; each block in wire order ..;
-- 256 rows (digest wire - last result wire)"). The order is that of the words: `word s i j l` is whatever stands at line l
-- of word j of step s in block i, for a row its place.
use Rattle.std.specs.Prelude.{ℕ, ◌+◌, ◌*◌}
use Rattle.block.specs.Steps.{block_layout, block_rows, place}
use Rattle.block.specs.declared.place.Place.{Place}
use Rattle.block.specs.declared.step.Step.TheVariants.{Start, Digest, Appended}
use Rattle.block.specs.declared.step.Step.{Step}
use Rattle.circuit.specs.Circuits.{appended_rows, block_count}
use Rattle.circuit.specs.declared.circuits.Circuit.{Circuit}
use Rattle.encoding.specs.Sequence.{beside, grid}

-- "256 fixed start rows", and as many for the digest
abbrev pub state_rows : ℕ
state_rows = 256

-- all rows of a circuit of c blocks; what is appended comes last
unfoldable pub frame_layout : {A : Type 0} → ℕ → (Step → ℕ → ℕ → ℕ → A) → ℕ → A
frame_layout c word =
    beside state_rows (grid 32 (word Start 0))
    (beside (block_rows * c) (grid block_rows (λ i. block_layout (λ s. word s i)))
    (beside state_rows (grid 32 (word Digest 0))
    (λ k. word Appended 0 k 0)))

-- the place of row k of a circuit of c blocks
unfoldable pub place_at : ℕ → ℕ → Place
place_at c = frame_layout c place

-- "in all 512 + 32,320 × n", and m that are appended
abbrev pub frame_rows : ℕ → ℕ → ℕ
frame_rows c m = 512 + block_rows * c + m

unfoldable pub row_count : Circuit → ℕ
row_count c = frame_rows (block_count c) (appended_rows c)
