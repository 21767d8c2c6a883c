-- What a function leaves that writes into a lent buffer and returns the place behind what it wrote: a device, on which no public
-- contract rests.
use Rattle.std.specs.Prelude.{List, ◌≡◌, ℕ, ◌+◌, length}
use Rattle.encoding.specs.Written.{Written}

pub record Put (before : List ℕ) (at : ℕ) (bytes after : List ℕ) (end : ℕ) : Type 0 where
  pub ends : end ≡ at + length bytes
  pub leaves : Written at bytes before after
