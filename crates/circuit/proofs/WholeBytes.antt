-- Whole bytes. The counts are those of the blocks. The rows of a block's bits ask the message alone, which is the padded bytes; all
-- other rows of a record of n bits are made of the count of its blocks.
use mathlib.Core.Bool.{Bool, cond, false, true}
use mathlib.Core.List.{List}
use mathlib.Core.Logic.{by_cases}
use mathlib.Core.Path.{◌≡◌, refl, sym, ap, ◌∙◌}
use Prim.Native.Nat.{ℕ, ◌+◌, ◌-◌, ◌*◌, ◌/◌, ◌%◌, ◌<◌}
use native.Mathlib.Decide.{dec_lt}
use native.Mathlib.Nat.{div-add-mod, sub-zero}
use native.Mathlib.Omega.{arith}
use borrow.Author.Tests.{ltb-false}
use lib.Dec.{ltb}
use lib.ListN.{length}
use Rattle.block.proofs.exact.Block.{block_forms}
use Rattle.block.specs.Steps.{block_rows}
use Rattle.block.specs.declared.step.Step.TheVariants.{Message}
use Rattle.circuit.proofs.exact.Frame.{block_row, start-row}
use Rattle.circuit.proofs.place.FormLayout.{form-at}
use Rattle.circuit.proofs.place.PlaceRange.{message-blocks}
use Rattle.circuit.specs.Circuit.{begins, digest_form, form_at, form_of, message_form, row_at}
use Rattle.circuit.specs.Circuits.{message_of}
use Rattle.circuit.specs.Places.{frame_layout, row_count}
use Rattle.circuit.specs.WholeBytes.{WholeBytes, rows_of_bytes, wires_of_bytes}
use Rattle.circuit.specs.Wires.{block_first, wire_count}
use Rattle.circuit.specs.declared.circuits.Circuit.TheVariants.{Record}
use Rattle.encoding.proofs.Sequence.{beside_first, beside_then}
use Rattle.encoding.specs.Bits.{bit_of_bytes}
use Rattle.encoding.specs.Sequence.{beside, grid}
use Rattle.forms.specs.Rows.{row_of}
use Rattle.forms.specs.declared.form.Form.TheVariants.{Bit, Fixed}
use Rattle.limits.specs.Blocks.{blocks}
use Rattle.sm3.proofs.WholeBytes.{blocks_of_bytes_lem, padded-message}
use Rattle.sm3.proofs.message.MessageBits.{message_padding}
use Rattle.sm3.specs.Message.{message}
use Rattle.sm3.specs.WholeBytes.{blocks_of_bytes, padded_bytes}

wires_of_bytes_lem : (L : ℕ) → wire_count (Record (8 * L)) ≡ wires_of_bytes L
unfolding wire_count
wires_of_bytes_lem L = omega (arith, blocks_of_bytes_lem L)

rows_of_bytes_lem : (L : ℕ) → row_count (Record (8 * L)) ≡ rows_of_bytes L
unfolding row_count
rows_of_bytes_lem L = omega (arith, blocks_of_bytes_lem L)

-- a choice whose second part matters only where the test fails
other_branch : {A : Type 0} (t : Bool) (x y z : A) → (t ≡ false → y ≡ z) → cond t x y ≡ cond t x z
other_branch true x y z e = refl
other_branch false x y z e = e refl

-- the row of bit b of block i
bit-row : (n i b : ℕ) → i < blocks n → b < 512
    → form_at (Record n) (256 + (32320 * i + b))
    ≡ cond (ltb (512 * i + b) n) (Bit (record { 0 = block_first i + b })) (Fixed (record { 0 = block_first i + b }) (message n (λ k. 0) (512 * i + b)))
unfolding grid form_of message_form
bit-row n i b l h =
    let bit : 32 * (b / 32) + b % 32 ≡ b = div-add-mod b 32 in
    block_row (Record n) i b l (omega arith)
    ∙ beside_first 512 _ _ b h
    ∙ ap (message_form (Record n) (message_of (Record n) i) i) bit
    ∙ ap (λ j. cond (ltb (512 * j + b) n) (Bit (record { 0 = block_first i + b })) (Fixed (record { 0 = block_first i + b }) (message n (λ k. 0) (512 * j + b)))) (sub-zero i)

bit_rows : (r : List ℕ) (i b : ℕ) → i < blocks_of_bytes (length r) → b < 512
    → form_at (Record (8 * length r)) (256 + (32320 * i + b))
    ≡ cond (ltb (512 * i + b) (8 * length r)) (Bit (record { 0 = 513 + 22528 * i + b }))
    (Fixed (record { 0 = 513 + 22528 * i + b }) (bit_of_bytes (padded_bytes r) (512 * i + b)))
bit_rows r i b l h =
    let n : ℕ = 8 * length r in
    let k : ℕ = 512 * i + b in
    bit-row n i b (omega (arith, blocks_of_bytes_lem (length r))) h
    ∙ other_branch (ltb k n) _ _ _
    (λ past.
    ap (Fixed (record { 0 = 513 + 22528 * i + b }))
    (message_padding n (λ k. 0) (bit_of_bytes r) k (ltb-false k n past) ∙ ap (λ m. m k) (padded-message r)))

-- Rows that are made of the count of blocks.
module _ (n m k : ℕ) (same : blocks n ≡ blocks m) (below : k < row_count (Record n)) (also : k < row_count (Record m))
    (other : (i b : ℕ) → i < blocks n → b < 512 → k ≡ 256 + (block_rows * i + b) → ⊥) where
  block-rest : (i b : ℕ) → i < blocks n → b < block_rows → k ≡ 256 + (block_rows * i + b) → form_at (Record n) k ≡ form_at (Record m) k
  unfolding begins
  block-rest i b l h e =
      by_cases (dec_lt b 512) (λ bit. absurd (other i b l bit e))
      (λ past.
      let place : b ≡ 512 + (b - 512) = omega arith in
      let at : (n : ℕ) → i < blocks n → form_at (Record n) k ≡ block_forms (block_first i) (begins (message_of (Record n) i) i) (b - 512) =
      λ n l. ap (form_at (Record n)) e ∙ block_row (Record n) i b l h ∙ ap (beside 512 (grid 32 (form_of (Record n) i Message)) _) place ∙ beside_then 512 _ _ (b - 512) in
      at n l ∙ sym (at m (omega arith)))

  digest-row : (j : ℕ) → k ≡ 256 + (block_rows * blocks n + j) → j < 256 → form_at (Record n) k ≡ form_at (Record m) k
  unfolding frame_layout grid form_of
  digest-row j e l =
      let at : (n : ℕ) → k < row_count (Record n) → k ≡ 256 + (block_rows * blocks n + j) → form_at (Record n) k ≡ digest_form (block_first (blocks n - 1)) (j / 32) (j % 32) =
      λ n below e.
      form-at (Record n) (message-blocks n) k below ∙ ap (λ x. frame_layout (blocks n) (λ s i. form_of (Record n) i s) x) e
      ∙ beside_then 256 _ _ (block_rows * blocks n + j) ∙ beside_then (block_rows * blocks n) _ _ j ∙ beside_first 256 _ _ j l in
      at n below e
      ∙ ap (λ c. digest_form (block_first (c - 1)) (j / 32) (j % 32)) same
      ∙ sym (at m also (omega (arith, ap (λ c. block_rows * c) same)))

  same_row : form_at (Record n) k ≡ form_at (Record m) k
  unfolding row_count
  same_row =
      by_cases (dec_lt k 256) (λ l. start-row (Record n) (message-blocks n) k l ∙ sym (start-row (Record m) (message-blocks m) k l))
      (λ past.
      by_cases (dec_lt (k - 256) (block_rows * blocks n))
      (λ l. block-rest ((k - 256) / block_rows) ((k - 256) % block_rows) (omega arith) (omega arith) (omega arith))
      (λ l. digest-row (k - 256 - block_rows * blocks n) (omega arith) (omega arith)))

other_rows : (L n k : ℕ) → blocks n ≡ blocks_of_bytes L → k < rows_of_bytes L
    → ((i b : ℕ) → i < blocks_of_bytes L → b < 512 → k ≡ 256 + (32320 * i + b) → ⊥) → row_at (Record (8 * L)) k ≡ row_at (Record n) k
unfolding row_at row_count
other_rows L n k same below other =
    ap row_of
    (same_row (8 * L) n k (blocks_of_bytes_lem L ∙ sym same) (omega (arith, blocks_of_bytes_lem L)) (omega (arith, same))
    (λ i b l. other i b (omega (arith, blocks_of_bytes_lem L))))

pub whole_bytes : WholeBytes
whole_bytes = record { wire_count_lem = wires_of_bytes_lem; row_count_lem = rows_of_bytes_lem; bit_rows = bit_rows; other_rows = other_rows }
