-- What a function leaves that writes into a lent buffer: a device of the contracts of private functions and of the parts of an
-- operation. What an operation leaves is said without it.
use Rattle.std.specs.Prelude.{List, ◌≡◌, ℕ}
use Rattle.std.proofs.lemmas.List.Edits.{sets}

-- `after` is the buffer `before` with the values xs from place `at` on, one after the other, and all else kept
pub record Written (at : ℕ) (xs before after : List ℕ) : Type 0 where
  pub left : after ≡ sets before at xs
