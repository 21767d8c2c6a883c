-- Devices of private contracts; no public contract rests on them. They keep the numbers of wires small, so that no sum of
-- them overflows, and say where A to H stand.
use Rattle.std.specs.Prelude.{ℕ, ◌+◌, ◌<◌, ◌≤◌}
use Rattle.block.specs.Wires.{StatePosition, eight_from, stands}

-- the first wire of a block of small wires
abbrev pub BlockAt : ℕ → Type 0
BlockAt F = F < 800000

-- .. that begins with the eight words from wire b on, which stand before it
pub record BlockFrom (F b : ℕ) : Type 0 where
  pub high : BlockAt F
  pub before : b + 256 ≤ F

-- where A to H stand before round j, in the block whose first wire is F and which begins with the words from wire b on
abbrev pub stands_before : ℕ → ℕ → ℕ → StatePosition
stands_before F b j = stands F (eight_from b) j
