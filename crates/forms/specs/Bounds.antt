-- Devices of private contracts; no public contract rests on them. They keep the numbers of wires small, so that no sum of them
-- overflows.
use Rattle.std.specs.Prelude.{ℕ, ◌<◌}
use Rattle.forms.specs.declared.position.WordPosition.{WordPosition}

-- a wire's number is small
abbrev pub Small : ℕ → Type 0
Small w = w < 1000000

-- a word stands on small wires
pub record Within (x : WordPosition) : Type 0 where
  pub first : Small x.first.0
  pub rotation : x.rotation < 32
