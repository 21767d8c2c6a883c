-- Runs of wires and words on them that do not overlap.
use Rattle.std.proofs.Common.{ℕ, ◌+◌, ◌<◌, ◌≤◌}
use Rattle.forms.specs.declared.position.WordPosition.{WordPosition}

-- the m wires from a on and the n from b on: if those begin before these end, they also end before these begin
abbrev pub Clear : ℕ → ℕ → ℕ → ℕ → Type 0
Clear a m b n = a < b + n → a + m ≤ b

-- the wires of two words
abbrev pub ClearWords : WordPosition → WordPosition → Type 0
ClearWords x y = Clear x.first.0 32 y.first.0 32

-- a word's wires are past wire 0 and below m
abbrev pub Under : ℕ → WordPosition → Type 0
Under m x = (1 ≤ x.first.0) × (x.first.0 + 32 ≤ m)
