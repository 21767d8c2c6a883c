-- What a part holds is the front of its memory. A term that is stored behind it makes it one longer, and a list is gone through term by term.
use Rattle.std.proofs.Common.{◌≡◌, ℕ, ◌+◌, ◌<◌, List, [], ◌∷◌, ◌++◌, length, get_or, set, sym, ap, ◌∙◌, take, take_all, add-one, arith, take-suc, take-suc-set}
use Rattle.std.proofs.lemmas.List.{take-append-le}
use Rattle.forms.proofs.shape.Nonzero.{nonzero_append}
use Rattle.forms.specs.Rows.{nonzero}
use Rattle.forms.specs.declared.form.Term.{Term}

pub stored : (ts : List Term) (i : ℕ) (t : Term) {held : List Term} → i < length ts → take i ts ≡ held → take (i + 1) (set ts i t) ≡ held ++ t ∷ []
stored ts i t low e = ap (λ k. take k (set ts i t)) (add-one i) ∙ take-suc-set ts i t low ∙ ap (λ us. us ++ t ∷ []) e

pub one_more : (ts : List Term) (i : ℕ) (d : Term) {xs ys : List Term} → i < length ts → xs ≡ nonzero (take i ts)
    → ys ≡ xs ++ nonzero (get_or ts i d ∷ []) → ys ≡ nonzero (take (i + 1) ts)
one_more ts i d low ex ey =
    ey ∙ ap (λ us. us ++ nonzero (get_or ts i d ∷ [])) ex ∙ sym (nonzero_append (take i ts) (get_or ts i d ∷ []))
    ∙ ap nonzero (sym (take-suc ts i d low) ∙ ap (λ k. take k ts) (sym (add-one i)))

pub front : (xs ys : List Term) (n : ℕ) → length xs ≡ n → take n (xs ++ ys) ≡ xs
front xs ys n e = take-append-le n xs ys (omega arith) ∙ take_all n xs (omega arith)
