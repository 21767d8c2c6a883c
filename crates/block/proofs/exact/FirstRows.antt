-- The first rows of one sequence and then another. Where they are no more than the one has, they are rows of the one; else they are
-- all its rows and then the first rows of the other.
use mathlib.Core.Logic.{◌↔◌}
use Prim.Native.Nat.{ℕ, ◌+◌, ◌≤◌}
use native.Mathlib.Omega.{arith}
use Rattle.encoding.proofs.Sequence.{beside_first, each_beside, each_same}
use Rattle.encoding.specs.Sequence.{beside}
use Rattle.forms.proofs.exact.Runs.{Holds}
use Rattle.forms.specs.Rows.{Satisfied, row_of}
use Rattle.forms.specs.declared.form.Form.{Form}

module _ (a : ℕ → ℕ) (n m : ℕ) (f g : ℕ → Form) where
  -- no more than f has
  pub holds-first : n ≤ m → (Holds a n (beside m f g) ↔ Holds a n f)
  holds-first h = each_same (λ k r. Satisfied a (row_of r)) n (λ k. k) (beside m f g) f (λ k l. beside_first m f g k (omega arith))

  -- all n of f, then m of g
  pub holds_then : Holds a n f → Holds a m g → Holds a (n + m) (beside n f g)
  holds_then first second = (each_beside (λ k r. Satisfied a (row_of r)) n m f g).1 (first, second)
