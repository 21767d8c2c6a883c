-- Blocks one after the other. Block i begins with the words B i, which stand at v i, and its 512 bits are b i, each known once the
-- blocks before it have their wires; so each block's rows hold exactly where its wires agree, given the blocks before it.
use mathlib.Core.Logic.{◌↔◌}
use mathlib.Core.Path.{refl, subst, subst₂}
use Prim.Native.Nat.{ℕ, ◌+◌, ◌*◌, ◌<◌}
use native.Mathlib.Nat.{mul_comm}
use Rattle.block.proofs.exact.Block.{block_run, block_forms, results_agree}
use Rattle.block.proofs.exact.States.{CarriesState}
use Rattle.block.specs.BlockWires.{block_wires, state_wires}
use Rattle.block.specs.Steps.{block_rows, computed_rows}
use Rattle.block.specs.Wires.{computed_per_block, expansion_at, result_at, StatePosition, wires_per_block}
use Rattle.circuit.specs.Wires.{block_first, first_block}
use Rattle.encoding.specs.Sequence.{beside, grid}
use Rattle.forms.proofs.exact.Parts.{agree_past, agree_row, then_at}
use Rattle.forms.proofs.exact.Runs.{Agree, Holds, Judged, each}
use Rattle.forms.specs.declared.form.Form.{Form}
use Rattle.sm3.specs.Sm3.{block}
use Rattle.sm3.specs.declared.state.State.{State}

-- the wires of the blocks
abbrev blocks_wires : (ℕ → State) → (ℕ → ℕ → ℕ) → ℕ → ℕ
blocks_wires B b = grid wires_per_block (λ i. block_wires (b i) (B i))

module _ (a : ℕ → ℕ) (B : ℕ → State) (b : ℕ → ℕ → ℕ) where
  -- block i has its wires, and so have those before it
  abbrev HasBlock : ℕ → Type 0
  HasBlock i = Agree a (block_first i) wires_per_block (block_wires (b i) (B i))

  abbrev pub HasEarlier : ℕ → Type 0
  HasEarlier i = (j : ℕ) → j < i → HasBlock j

  pub block_of : (c : ℕ) → Agree a first_block (wires_per_block * c) (blocks_wires B b) → (i : ℕ) → i < c → HasBlock i
  block_of c e =
      agree_row a first_block c wires_per_block _ (subst (λ n. Agree a first_block n (blocks_wires B b)) (mul_comm wires_per_block c) e)

  -- its result
  pub block_result : (i : ℕ) → HasBlock i → Agree a (block_first i + result_at) 256 (state_wires (block (b i) (B i)))
  unfolding block_wires
  block_result i e =
      results_agree a (block_first i) (b i) (B i)
      (agree_past a (block_first i) (block_first i + expansion_at) 512 computed_per_block _ _ refl e)

  -- f i are the rows of the bits of block i
  pub blocks-run : Judged a → (v : ℕ → StatePosition) (f : ℕ → ℕ → Form) (c : ℕ)
      → ((i : ℕ) → i < c → (k : ℕ) → k < 512 → b i k < 2)
      → ((i : ℕ) → i < c → HasEarlier i → CarriesState a (v i) (B i))
      → ((i : ℕ) → i < c → HasEarlier i → (Holds a 512 (f i) ↔ Agree a (block_first i) 512 (b i)))
      → (Holds a (block_rows * c) (grid block_rows (λ i. beside 512 (f i) (block_forms (block_first i) (v i))))
      ↔ Agree a first_block (wires_per_block * c) (blocks_wires B b))
  unfolding block_wires
  blocks-run J v f c bits begun rows =
      subst₂
      (λ x y. Holds a x (grid block_rows (λ i. beside 512 (f i) (block_forms (block_first i) (v i)))) ↔ Agree a first_block y (blocks_wires B b))
      (mul_comm c block_rows) (mul_comm c wires_per_block)
      (each a first_block c block_rows wires_per_block _ _
      (λ i l earlier.
      then_at a (block_first i) (block_first i + expansion_at) 512 computed_rows 512 computed_per_block _ _ _ _ refl (rows i l earlier)
      (block_run a J (block_first i) (v i) (B i) (begun i l earlier) (b i) (bits i l))))
