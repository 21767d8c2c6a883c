-- The frame around the blocks: the start rows fix the start words, and the digest rows copy the last block's result. All rows of a
-- circuit are those of the start words, of the blocks, of the digest and the appended ones; all wires are the constant 1, the digest,
-- the start words, and whatever stands from the first block on.
use mathlib.Core.Logic.Iff
use mathlib.Core.Logic.{◌↔◌}
use mathlib.Core.Path.{◌≡◌, ◌∙◌, subst}
use Prim.Native.Nat.{ℕ, ◌+◌, ◌-◌, ◌*◌, ◌<◌}
use native.Mathlib.Omega.{arith}
use Rattle.block.proofs.exact.Block.{block_forms}
use Rattle.block.proofs.exact.BlockExpansion.{expansion_forms}
use Rattle.block.proofs.exact.BlockRounds.{round_forms, rounds_forms}
use Rattle.block.specs.BlockWires.{state_wires}
use Rattle.block.specs.Steps.{block_layout, block_rows, expansion_layout, round_layout, rounds_layout}
use Rattle.block.specs.Wires.{result_at, result_first}
use Rattle.block.specs.declared.step.Step.TheVariants.{Message}
use Rattle.circuit.proofs.place.FormLayout.{form-at, whole_forms}
use Rattle.circuit.specs.Circuit.{begins, digest_form, form_at, form_of, start_form}
use Rattle.circuit.specs.Circuits.{appended_form, appended_rows, block_count, message_of}
use Rattle.circuit.specs.Places.{frame_layout, row_count}
use Rattle.circuit.specs.Wires.{block_first, digest_first, first_block, frame_wires, start_first}
use Rattle.circuit.specs.declared.circuits.Circuit.{Circuit}
use Rattle.encoding.proofs.Sequence.{beside_first, beside_then, each_beside, each_iff, each_same, grid-at}
use Rattle.encoding.specs.Sequence.{beside, grid}
use Rattle.forms.proofs.exact.Parts.{agree_beside, agree_row}
use Rattle.forms.proofs.exact.Runs.{Agree, Holds, Judged, and_given, each}
use Rattle.forms.proofs.exact.Words.{equal_row, fixed_row}
use Rattle.forms.specs.Rows.{Satisfied, row_of}
use Rattle.forms.specs.WordWires.{word_wires}
use Rattle.forms.specs.declared.form.Form.{Form}
use Rattle.sm3.proofs.Bits.{bit_lt}
use Rattle.sm3.specs.Sm3.{start, word_of}
use Rattle.sm3.specs.Words.{bit}
use Rattle.sm3.specs.declared.state.State.{State}

module _ (a : ℕ → ℕ) (J : Judged a) where
  pub start-run : Holds a 256 (grid 32 start_form) ↔ Agree a start_first 256 (state_wires start)
  unfolding start_form state_wires word_wires
  start-run =
      each a start_first 8 32 32 _ _
      (λ k l earlier.
      each_iff 32 _ _ (λ i h. fixed_row a J (start_first + 32 * k + i) (bit i (word_of start k)) (bit_lt i (word_of start k))))

  -- the last block's first wire is F, and its result is S
  pub digest-run : (F : ℕ) (S : State) → Agree a (F + result_at) 256 (state_wires S)
      → (Holds a 256 (grid 32 (digest_form F)) ↔ Agree a digest_first 256 (state_wires S))
  unfolding digest_form state_wires word_wires
  digest-run F S results =
      each a digest_first 8 32 32 _ _
      (λ k l earlier.
      each_iff 32 _ _
      (λ i h.
      subst (λ x. Satisfied a (row_of (digest_form F k i)) ↔ (a (digest_first + 32 * k + i) ≡ x)) (agree_row a (F + result_at) 8 32 _ results k l i h)
      (equal_row a J (digest_first + 32 * k + i) (result_first F k + i))))

-- the rows of block i
abbrev pub block_rows_of : Circuit → ℕ → ℕ → Form
block_rows_of C i = beside 512 (grid 32 (form_of C i Message)) (block_forms (block_first i) (begins (message_of C i) i))

module _ (C : Circuit) (some : 0 < block_count C) (a : ℕ → ℕ) where
  pub rows_apart : Holds a (row_count C) (form_at C)
      ↔ (Holds a 256 (grid 32 start_form)
      × (Holds a (block_rows * block_count C) (grid block_rows (block_rows_of C))
      × (Holds a 256 (grid 32 (digest_form (block_first (block_count C - 1)))) × Holds a (appended_rows C) (appended_form C))))
  unfolding frame_layout block_layout rounds_layout round_layout expansion_layout form_of block_forms rounds_forms round_forms expansion_forms row_count
  rows_apart =
      let c : ℕ = block_rows * block_count C in
      let all : 256 + (c + (256 + appended_rows C)) ≡ row_count C = omega arith in
      Iff.trans (each_same (λ k f. Satisfied a (row_of f)) (row_count C) (λ k. k) (form_at C) (whole_forms C) (form-at C some))
      (Iff.trans
      (subst (λ m. Holds a m (whole_forms C) ↔ Holds a (256 + (c + (256 + appended_rows C))) (whole_forms C)) all Iff.rfl)
      (Iff.trans (each_beside (λ k f. Satisfied a (row_of f)) 256 (c + (256 + appended_rows C)) _ _)
      (and_given Iff.rfl
      (λ start.
      Iff.trans (each_beside (λ k f. Satisfied a (row_of f)) c (256 + appended_rows C) _ _)
      (and_given Iff.rfl (λ blocks. each_beside (λ k f. Satisfied a (row_of f)) 256 (appended_rows C) _ _))))))

-- a start row
pub start-row : (C : Circuit) → 0 < block_count C → (k : ℕ) → k < 256 → form_at C k ≡ grid 32 start_form k
unfolding frame_layout form_of row_count
start-row C some k l = form-at C some k (omega arith) ∙ beside_first 256 _ _ k l

-- row k of block i
pub block_row : (C : Circuit) (i k : ℕ) → i < block_count C → k < block_rows → form_at C (256 + (block_rows * i + k)) ≡ block_rows_of C i k
unfolding frame_layout block_layout rounds_layout round_layout expansion_layout form_of block_forms rounds_forms round_forms expansion_forms row_count
block_row C i k l h =
    form-at C (omega arith) (256 + (block_rows * i + k)) (omega arith)
    ∙ beside_then 256 _ _ (block_rows * i + k)
    ∙ beside_first (block_rows * block_count C) _ _ (block_rows * i + k) (omega arith)
    ∙ grid-at block_rows (block_rows_of C) i k h

-- a row of the digest
pub digest-row : (C : Circuit) → 0 < block_count C → (k : ℕ) → k < 256
    → form_at C (256 + (block_rows * block_count C + k)) ≡ grid 32 (digest_form (block_first (block_count C - 1))) k
unfolding frame_layout form_of row_count
digest-row C some k l =
    form-at C some (256 + (block_rows * block_count C + k)) (omega arith)
    ∙ beside_then 256 _ _ (block_rows * block_count C + k)
    ∙ beside_then (block_rows * block_count C) _ _ k
    ∙ beside_first 256 _ _ k l

-- an appended row
pub appended-row : (C : Circuit) → 0 < block_count C → (k : ℕ) → k < appended_rows C
    → form_at C (256 + (block_rows * block_count C + (256 + k))) ≡ appended_form C k
unfolding frame_layout form_of row_count
appended-row C some k l =
    form-at C some (256 + (block_rows * block_count C + (256 + k))) (omega arith)
    ∙ beside_then 256 _ _ (block_rows * block_count C + (256 + k))
    ∙ beside_then (block_rows * block_count C) _ _ (256 + k)
    ∙ beside_then 256 _ _ k

pub wires_apart : (a : ℕ → ℕ) (c : ℕ) (S : State) (rest : ℕ → ℕ) → Agree a 0 (first_block + c) (frame_wires S rest)
    ↔ (Agree a 0 1 (λ k. 1)
    × (Agree a digest_first 256 (state_wires S) × (Agree a start_first 256 (state_wires start) × Agree a first_block c rest)))
unfolding frame_wires
wires_apart a c S rest =
    let all : 1 + (256 + (256 + c)) ≡ first_block + c = omega arith in
    Iff.trans (subst (λ m. Agree a 0 m (frame_wires S rest) ↔ Agree a 0 (1 + (256 + (256 + c))) (frame_wires S rest)) all Iff.rfl)
    (Iff.trans (agree_beside a 0 1 (256 + (256 + c)) _ _)
    (and_given Iff.rfl
    (λ one.
    Iff.trans (agree_beside a digest_first 256 (256 + c) _ _)
    (and_given Iff.rfl (λ digest. agree_beside a start_first 256 c _ _)))))
