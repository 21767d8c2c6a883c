-- Signed coefficients say what the residues said. A number above (p - 1) / 2 that is given minus p stays the same modulo p, so a
-- weighted sum does, and A × B = C modulo p holds of the one where it holds of the other.
use Rattle.std.proofs.Common.{◌≡◌, ℕ, ◌*◌, ◌%◌, Bool, true, false, cond, eqb, leb, List, [], ◌∷◌, pos, ◌-ℤ◌, ◌*ℤ◌, sym, refl, ◌∙◌, ap₂, arith}
use Rattle.field.proofs.Congruence.{mul-mod}
use Rattle.field.proofs.Residue.{residue_difference, residue-product, residue-sum}
use Rattle.field.specs.Field.{p, residue}
use Rattle.forms.specs.Coefficients.{coefficient, half, signed}
use Rattle.forms.specs.Former.{RowsUnaltered, former_holds, former_value}
use Rattle.forms.specs.Rows.{holds, value}
use Rattle.forms.specs.declared.form.Term.{Term}

pub signed-residue : (k : ℕ) → residue (signed k) ≡ k % p
unfolding signed residue
signed-residue k = by_test (leb k half)
  where
    by_test : (t : Bool) → residue (cond t (pos k) (pos k -ℤ pos p)) ≡ k % p
    by_test true = refl
    by_test false = residue_difference k p ∙ omega arith

-- what a sum of products is modulo p
value-residue : (a : ℕ → ℕ) (ts : List Term) → residue (value a ts) ≡ former_value a ts % p
unfolding value former_value residue
value-residue a [] = refl
value-residue a (t ∷ ts) =
    let x : ℕ = a t.wire.0 in
    let term : residue (coefficient t *ℤ pos x) ≡ (t.residue * x) % p =
    residue-product (coefficient t) (pos x)
    ∙ ap₂ (λ (m n : ℕ). (m * n) % p) (signed-residue t.residue) refl
    ∙ sym (mul-mod t.residue x p) in
    residue-sum (coefficient t *ℤ pos x) (value a ts) ∙ omega (arith, term, value-residue a ts)

pub rows_unaltered : RowsUnaltered
unfolding holds former_holds
rows_unaltered a r =
    let product : residue (value a r.A *ℤ value a r.B) ≡ (former_value a r.A * former_value a r.B) % p =
    residue-product (value a r.A) (value a r.B)
    ∙ ap₂ (λ (m n : ℕ). (m * n) % p) (value-residue a r.A) (value-residue a r.B)
    ∙ sym (mul-mod (former_value a r.A) (former_value a r.B) p) in
    ap₂ eqb product (value-residue a r.C)
