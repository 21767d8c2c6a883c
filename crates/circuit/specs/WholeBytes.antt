-- Records of whole bytes: what document 01 says of the wires and rows of a record of L bytes, in its own unit, is what the definitions
-- give for 8 L bits (document 02, request 2: "a whole-byte record gives the rows it gave").
use Rattle.std.specs.Prelude.{cond, List, ◌≡◌, ℕ, ◌+◌, ◌*◌, ◌<◌, ltb, length}
use Rattle.circuit.specs.Circuit.{form_at, row_at}
use Rattle.circuit.specs.Places.{row_count}
use Rattle.circuit.specs.Wires.{wire_count}
use Rattle.circuit.specs.declared.circuits.Circuit.TheVariants.{Record}
use Rattle.encoding.specs.Bits.{bit_of_bytes}
use Rattle.forms.specs.declared.form.Form.TheVariants.{Bit, Fixed}
use Rattle.limits.specs.Blocks.{blocks}
use Rattle.sm3.specs.WholeBytes.{blocks_of_bytes, padded_bytes}

-- "Wires in all: 513 + 22,528 × n." "A block has 32,320 rows; in all 512 + 32,320 × n."
abbrev pub wires_of_bytes : ℕ → ℕ
wires_of_bytes L = 513 + 22528 * blocks_of_bytes L

abbrev pub rows_of_bytes : ℕ → ℕ
rows_of_bytes L = 512 + 32320 * blocks_of_bytes L

pub record WholeBytes : Type 0 where
  pub wire_count_lem : (L : ℕ) → wire_count (Record (8 * L)) ≡ wires_of_bytes L
  pub row_count_lem : (L : ℕ) → row_count (Record (8 * L)) ≡ rows_of_bytes L
  -- "its record wires by bit rows and its padding wires by fixed rows": the row of bit b of block i, which is a record wire "before
  -- bit 8 × L of the message", for a record with the bytes r
  pub bit_rows : (r : List ℕ) (i b : ℕ) → i < blocks_of_bytes (length r) → b < 512
      → form_at (Record (8 * length r)) (256 + (32320 * i + b))
      ≡ cond (ltb (512 * i + b) (8 * length r)) (Bit (record { 0 = 513 + 22528 * i + b }))
      (Fixed (record { 0 = 513 + 22528 * i + b }) (bit_of_bytes (padded_bytes r) (512 * i + b)))
  -- no other row knows the length but by its count of blocks
  pub other_rows : (L n k : ℕ) → blocks n ≡ blocks_of_bytes L → k < rows_of_bytes L
      → ((i b : ℕ) → i < blocks_of_bytes L → b < 512 → k ≡ 256 + (32320 * i + b) → ⊥) → row_at (Record (8 * L)) k ≡ row_at (Record n) k
