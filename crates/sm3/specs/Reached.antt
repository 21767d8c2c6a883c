-- A device of the functions that make the rounds of a block, on which no public contract rests: how far a block has come.
use Rattle.std.specs.Prelude.{◌≡◌, ℕ, ◌+◌, List, length, take}
use Rattle.encoding.specs.Bits.{bit_of_bytes}
use Rattle.sm3.specs.Sm3.{expansion, rounds}
use Rattle.sm3.specs.declared.state.State.{State}

-- before round j of a block that begins with v the array w has the words before W(j+4), and s is A to H
pub record Reached (bytes : List ℕ) (v : State) (j : ℕ) (w : List ℕ) (s : State) : Type 0 where
  pub room : length w ≡ 68
  pub words : take (j + 4) w ≡ expansion (bit_of_bytes bytes) (j + 4)
  pub state : s ≡ rounds (expansion (bit_of_bytes bytes) 68) v j
