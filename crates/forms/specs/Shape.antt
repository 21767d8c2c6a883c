-- The shape of every row (document 01, "Rows").
use Rattle.std.specs.Prelude.{◌≡◌, ℕ, ◌<◌, ◌≤◌, List, [], ◌∷◌, length, ℤ, pos, neg_ℤ, ◌≤ℤ◌}
use Rattle.forms.specs.Coefficients.{coefficient, half}
use Rattle.forms.specs.Rows.{Row, terms}
use Rattle.forms.specs.declared.form.Term.{Term}

-- P holds of each one of a list; R holds of each one and every one after it
abbrev pub All : {A : Type 0} → (A → Type 0) → List A → Type 0
All P [] = Unit {0}
All P (x ∷ xs) = P x × All P xs

abbrev pub Pairwise : {A : Type 0} → (A → A → Type 0) → List A → Type 0
Pairwise R [] = Unit {0}
Pairwise R (x ∷ xs) = All (R x) xs × Pairwise R xs

-- "Terms stand by rising wire"
abbrev pub Rising : List Term → Type 0
Rising ts = Pairwise (λ t u. t.wire.0 < u.wire.0) ts

-- the wires of terms differ
abbrev pub Distinct : List Term → Type 0
Distinct ts = Pairwise (λ t u. t.wire.0 ≡ u.wire.0 → ⊥) ts

-- "No row has over 163 terms."
abbrev pub most_terms : ℕ
most_terms = 163

-- ".., coefficients from 1 to p - 1, zero ones omitted.", which document 02's request 7 makes: not 0, and between -(p - 1) / 2 and
-- (p - 1) / 2
pub record InRange (z : ℤ) : Type 0 where
  pub not_zero : z ≡ pos 0 → ⊥
  pub least : neg_ℤ (pos half) ≤ℤ z
  pub most : z ≤ℤ pos half

-- a row over m wires
pub record Shaped (m : ℕ) (r : Row) : Type 0 where
  pub a : Rising r.A
  pub b : Rising r.B
  pub c : Rising r.C
  pub wires : All (λ t. t.wire.0 < m) (terms r)
  pub coefficients : All (λ t. InRange (coefficient t)) (terms r)
  pub few : length (terms r) ≤ most_terms
