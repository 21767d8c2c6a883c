-- Every row's place is in range, word by word; and no circuit that is allowed has more rows or wires than the most.
use Prim.Native.Nat.{ℕ, ◌<◌, ◌≤◌}
use native.Mathlib.Omega.{arith}
use Rattle.block.specs.Steps.{place}
use Rattle.circuit.proofs.place.WordByWord.{word_by_word}
use Rattle.circuit.specs.Circuits.{appended_rows, appended_wires, block_count}
use Rattle.circuit.specs.Places.{frame_rows, place_at, row_count}
use Rattle.circuit.specs.Ranges.{Allowed, InCircuit, InFrame, most_appended, most_blocks, most_rows, most_wires}
use Rattle.circuit.specs.Wires.{wire_count}
use Rattle.circuit.specs.declared.circuits.Circuit.TheVariants.{Record, Axles}
use Rattle.circuit.specs.declared.circuits.Circuit.{Circuit}
use Rattle.encoding.proofs.Sequence.{Each, each_beside, each_grid}
use Rattle.limits.specs.Blocks.{blocks}

pub in_frame : (c m : ℕ) → 0 < c → (k : ℕ) → k < frame_rows c m → InFrame c m (place_at c k)
unfolding place_at
in_frame c m some =
    word_by_word (λ n f g. Each n (λ k. InFrame c m (f k)))
    (λ n d f g f' g' a b. (each_beside (λ k. InFrame c m) n d f g).1 (a, b))
    (λ n d f f'. (each_grid (λ k. InFrame c m) n d f).1)
    c m some place place (λ s i j a b l h. (a, b l h))

-- a message has a block
pub message-blocks : (n : ℕ) → 0 < blocks n
unfolding blocks
message-blocks n = omega arith

pub some_blocks : (C : Circuit) → Allowed C → 0 < block_count C
unfolding blocks
some_blocks (Record n) h = omega arith
some_blocks (Axles lower upper) h = omega arith

pub few_blocks : (C : Circuit) → Allowed C → block_count C ≤ most_blocks
unfolding blocks
few_blocks (Record n) h = omega arith
few_blocks (Axles lower upper) h = omega arith

few_rows : (C : Circuit) → Allowed C → appended_rows C ≤ most_appended
few_rows (Record n) h = omega arith
few_rows (Axles lower upper) h = omega arith

few_wires : (C : Circuit) → Allowed C → appended_wires C ≤ most_appended
few_wires (Record n) h = omega arith
few_wires (Axles lower upper) h = omega arith

pub in_circuit : (C : Circuit) → Allowed C → (k : ℕ) → k < row_count C → InCircuit C (place_at (block_count C) k)
unfolding row_count
in_circuit C h k l =
    let at = in_frame (block_count C) (appended_rows C) (some_blocks C h) k l in record { block = at.0; step = at.1 }

pub most_rows_lem : (C : Circuit) → Allowed C → row_count C ≤ most_rows
unfolding row_count
most_rows_lem C h = omega (arith, few_blocks C h, few_rows C h)

pub most_wires_lem : (C : Circuit) → Allowed C → wire_count C ≤ most_wires
unfolding wire_count
most_wires_lem C h = omega (arith, few_blocks C h, few_wires C h)
