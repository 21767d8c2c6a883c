-- Entries written into a buffer: a device of the contracts of the producer's parts. What `produce` leaves is said without it.
use Rattle.std.specs.Prelude.{ℕ, ◌*◌, List}
use Rattle.assignment.specs.Assignment.{entry_bytes}
use Rattle.encoding.specs.Written.{Written}

-- the first n values of s are written as the entries of the wires from w on
pub record Wrote (w n : ℕ) (s : ℕ → ℕ) (before after : List ℕ) : Type 0 where
  pub entries : Written (8 * w) (entry_bytes n s) before after
