-- What dropping the zero terms leaves: term by term, and of one list behind another. Where there is none, all stay.
use Rattle.std.proofs.Common.{◌≡◌, ℕ, zero, suc, Bool, true, false, cond, eqb, List, [], ◌∷◌, ◌++◌, refl, ap, ap₂, ◌∙◌, eq-eqb, ne_eqb}
use Rattle.encoding.specs.Sequence.{tab}
use Rattle.forms.specs.Rows.{nonzero}
use Rattle.forms.specs.declared.form.Term.{Term}

pub drops : (t : Term) (ts : List Term) → t.residue ≡ 0 → nonzero (t ∷ ts) ≡ nonzero ts
unfolding nonzero
drops t ts e = rw (eq-eqb t.residue 0 e)

pub keeps : (t : Term) (ts : List Term) → (t.residue ≡ 0 → ⊥) → nonzero (t ∷ ts) ≡ t ∷ nonzero ts
unfolding nonzero
keeps t ts e = rw (ne_eqb t.residue 0 e)

-- of one term
pub nonzero_drops : (t : Term) → t.residue ≡ 0 → nonzero (t ∷ []) ≡ []
unfolding nonzero
nonzero_drops t e = drops t [] e

pub nonzero_keeps : (t : Term) → (t.residue ≡ 0 → ⊥) → nonzero (t ∷ []) ≡ t ∷ []
unfolding nonzero
nonzero_keeps t e = keeps t [] e

pub nonzero_append : (xs ys : List Term) → nonzero (xs ++ ys) ≡ nonzero xs ++ nonzero ys
unfolding nonzero
nonzero_append [] ys = refl
nonzero_append (x ∷ xs) ys = go (eqb x.residue 0) (nonzero_append xs ys)
  where
    go : (b : Bool) → nonzero (xs ++ ys) ≡ nonzero xs ++ nonzero ys
        → cond b (nonzero (xs ++ ys)) (x ∷ nonzero (xs ++ ys)) ≡ cond b (nonzero xs) (x ∷ nonzero xs) ++ nonzero ys
    go true e = e
    go false e = ap (λ l. x ∷ l) e

-- none is zero

pub nonzero_both : (xs ys : List Term) → nonzero xs ≡ xs → nonzero ys ≡ ys → nonzero (xs ++ ys) ≡ xs ++ ys
nonzero_both xs ys p q = nonzero_append xs ys ∙ ap₂ (λ l m. l ++ m) p q

pub nonzero-tab : (n : ℕ) (f : ℕ → Term) → ((i : ℕ) → (f i).residue ≡ 0 → ⊥) → nonzero (tab n f) ≡ tab n f
unfolding tab nonzero
nonzero-tab zero f h = refl
nonzero-tab (suc n) f h = nonzero_both (tab n f) (f n ∷ []) (nonzero-tab n f h) (keeps (f n) [] (h n))
