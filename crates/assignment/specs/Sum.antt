-- A sum as the producer holds it: a device of the contracts of its parts. What `produce` leaves is said without it.
use Rattle.std.specs.Prelude.{◌≡◌, ℕ, ◌+◌, ◌*◌, ◌^◌}
use Rattle.assignment.specs.declared.sum.Sum.{Sum}
use Rattle.sm3.specs.Sm3.{truncated}

-- the word that the hash keeps of a whole sum, and what passes 2^32
pub record IsSum (sum : Sum) (whole : ℕ) : Type 0 where
  pub word : sum.word ≡ truncated whole
  pub carry : whole ≡ sum.word + 2 ^ 32 * sum.carry
