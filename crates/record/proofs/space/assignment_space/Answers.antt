-- A repeat is as long as it says; the level and the type are given, since the list is too long to be unfolded.
use mathlib.Core.Path.{sym}
use Prim.Native.Nat.{ℕ}
use lib.ListN.{length-replicate}
use Rattle.record.proofs.space.assignment_space.Goals as goal

pub returns : goal.returns
returns c = sym (length-replicate {0} {A = ℕ} 2887688 0)
