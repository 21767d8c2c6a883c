-- A device: which places there are, and how large a circuit can be, which the code hands on so that no number of a wire or a row
-- overflows; no answer rests on it.
use Rattle.std.specs.Prelude.{ℕ, ◌+◌, ◌<◌, ◌≤◌}
use Rattle.block.specs.Ranges.{InStep}
use Rattle.block.specs.declared.place.Place.{Place}
use Rattle.circuit.specs.Circuits.{appended_rows, block_count}
use Rattle.circuit.specs.declared.circuits.Circuit.TheVariants.{Record, Axles}
use Rattle.circuit.specs.declared.circuits.Circuit.{Circuit}
use Rattle.circuit.specs.declared.message.MessageSpan.{MessageSpan}
use Rattle.limits.specs.Blocks.{blocks, most_bits}

-- "0 to" 8,127 bits; "with bounds from 2 to 99", the lower no greater than the upper: a circuit that is not refused
abbrev pub Allowed : Circuit → Type 0
Allowed (Record n) = n ≤ most_bits
Allowed (Axles lower upper) = (2 ≤ lower) × (lower ≤ upper) × (upper ≤ 99)

-- the most blocks, and the most wires and rows, with an appendix of 2,312 each
abbrev pub most_blocks : ℕ
most_blocks = 31

abbrev pub most_appended : ℕ
most_appended = 2312

abbrev pub most_wires : ℕ
most_wires = 701193

abbrev pub most_rows : ℕ
most_rows = 1004744

-- a place among c blocks and m appended rows
abbrev pub InFrame : ℕ → ℕ → Place → Type 0
InFrame c m p = (p.block < c) × InStep m p.step p.index p.line

-- .. of a circuit
pub record InCircuit (c : Circuit) (p : Place) : Type 0 where
  pub block : p.block < block_count c
  pub step : InStep (appended_rows c) p.step p.index p.line

-- block i is one of the message m
pub record OfMessage (m : MessageSpan) (i : ℕ) : Type 0 where
  pub bits : m.bits ≤ most_bits
  pub from : m.begin ≤ i
  pub below : i < m.begin + blocks m.bits
  pub few : i < most_blocks
