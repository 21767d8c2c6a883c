-- The front of a buffer is as long as it says.
use mathlib.Core.List.{List}
use mathlib.Core.Path.{◌≡◌}
use Prim.Native.Nat.{ℕ, ◌≤◌}
use lib.ListN.{length, take}
use lib.Seq.{length-take-le}

pub front_length : (n : ℕ) (l : List ℕ) → n ≤ length l → length (take n l) ≡ n
front_length n l room = length-take-le n l room
