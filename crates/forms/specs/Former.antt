-- Rows with document 01's "coefficients from 1 to p - 1", as they were given before document 02's request 7. No operation cites them:
-- they are what the theorems compare with that say what stayed.
use Rattle.std.specs.Prelude.{◌≡◌, ℕ, ◌+◌, ◌*◌, ◌%◌, ◌<◌, ◌≤◌, Bool, List, [], ◌∷◌, ◌==◌}
use Rattle.field.specs.Field.{p, residue}
use Rattle.forms.specs.Coefficients.{coefficient}
use Rattle.forms.specs.Rows.{Row, holds}
use Rattle.forms.specs.declared.form.Term.{Term}

-- a term's former coefficient, which is from 1 to p - 1 and what the signed one is modulo p
pub record IsFormer (t : Term) : Type 0 where
  pub least : 1 ≤ t.residue
  pub most : t.residue < p
  pub modulo : residue (coefficient t) ≡ t.residue

-- "A row is three weighted sums of wires A, B, C and is satisfied when A × B = C modulo p", where a term's coefficient is its residue
unfoldable pub former_value : (ℕ → ℕ) → List Term → ℕ
former_value a [] = 0
former_value a (t ∷ ts) = t.residue * a t.wire.0 + former_value a ts

unfoldable pub former_holds : (ℕ → ℕ) → Row → Bool
former_holds a r = (former_value a r.A * former_value a r.B) % p == former_value a r.C % p

-- "which assignments pass is unaltered": of every row, whatever its terms
abbrev pub RowsUnaltered : Type 0
RowsUnaltered = (a : ℕ → ℕ) (r : Row) → holds a r ≡ former_holds a r
