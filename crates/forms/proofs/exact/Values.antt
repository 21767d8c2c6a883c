-- The value of a list of terms, by their residues, which tell of a row what its coefficients do. It is a sum, so the order of the
-- terms does not matter, nor do those that are zero: a row that is put in order is satisfied where its letters' equation holds. Weights
-- that are powers of two make a number of the wires' bits, and a residue p - k takes k times the wire off, modulo p.
use Rattle.std.proofs.Common.{◌≡◌, ℕ, zero, suc, ◌+◌, ◌-◌, ◌*◌, ◌%◌, ◌^◌, ◌≤◌, Bool, true, false, cond, eqb, ltb, ◌↔◌, List, [], ◌∷◌, ◌++◌, sym, refl, ap, ◌∙◌, ap₂, le_refl, add-mul, pow-suc, sub-add_cancel, arith, eq-eqb, eqb-true}
use mathlib.Core.Logic.Iff
use Rattle.encoding.proofs.Sequence.{Each}
use Rattle.encoding.specs.Bits.{number}
use Rattle.encoding.specs.Sequence.{tab}
use Rattle.field.specs.Field.{p}
use Rattle.forms.proofs.exact.Signed.{rows_unaltered}
use Rattle.forms.specs.Former.{former_holds, former_value}
use Rattle.forms.specs.Rows.{Row, Satisfied, ◌·◌, insert, less, letters, nonzero, row_of, sorted, normal_form}
use Rattle.forms.specs.declared.form.Form.{Form}
use Rattle.forms.specs.declared.form.Term.{Term}
use Rattle.refusal.specs.declared.numbers.WireNumber.{WireNumber}

module _ (a : ℕ → ℕ) where
  pub value-append : (xs ys : List Term) → former_value a (xs ++ ys) ≡ former_value a xs + former_value a ys
  unfolding former_value
  value-append [] ys = omega arith
  value-append (x ∷ xs) ys = omega (arith, value-append xs ys)

  -- both answers of a test have the value
  value-cond : (b : Bool) (xs ys : List Term) (n : ℕ) → former_value a xs ≡ n → former_value a ys ≡ n → former_value a (cond b xs ys) ≡ n
  value-cond true xs ys n ex ey = ex
  value-cond false xs ys n ex ey = ey

  pub value-nonzero : (ts : List Term) → former_value a (nonzero ts) ≡ former_value a ts
  unfolding former_value nonzero
  value-nonzero [] = refl
  value-nonzero (t ∷ ts) = go (eqb t.residue 0) refl (value-nonzero ts)
    where
      go : (b : Bool) → eqb t.residue 0 ≡ b → former_value a (nonzero ts) ≡ former_value a ts
          → former_value a (cond b (nonzero ts) (t ∷ nonzero ts)) ≡ t.residue * a t.wire.0 + former_value a ts
      go true e h =
          let zero_term : t.residue * a t.wire.0 ≡ 0 * a t.wire.0 =
          ap (λ (k : ℕ). k * a t.wire.0) (eqb-true t.residue 0 e) in
          omega arith
      go false e h = omega arith

  value-insert : (t : Term) (us : List Term) → former_value a (insert t us) ≡ former_value a (t ∷ us)
  unfolding former_value insert
  value-insert t [] = refl
  value-insert t (u ∷ us) =
      value-cond (ltb u.wire.0 t.wire.0) (u ∷ insert t us) (t ∷ u ∷ us) _ (omega (arith, value-insert t us)) refl

  value-sorted : (ts : List Term) → former_value a (sorted ts) ≡ former_value a ts
  unfolding former_value sorted
  value-sorted [] = refl
  value-sorted (t ∷ ts) = value-insert t (sorted ts) ∙ ap (λ (n : ℕ). t.residue * a t.wire.0 + n) (value-sorted ts)

  pub value_normal : (ts : List Term) → former_value a (normal_form ts) ≡ former_value a ts
  unfolding normal_form
  value_normal ts = value-sorted (nonzero ts) ∙ value-nonzero ts

  -- the test is the equation modulo p
  satisfied : (r : Row) → Satisfied a r ↔ ((former_value a r.A * former_value a r.B) % p ≡ former_value a r.C % p)
  unfolding former_holds
  satisfied r =
      let same = rows_unaltered a r in
      ((λ h. eqb-true _ _ (sym same ∙ h)), (λ h. same ∙ eq-eqb _ _ h))

  -- a form's row is satisfied where the equation of its letters holds
  pub row-letters : (f : Form)
      → Satisfied a (row_of f) ↔ ((former_value a (letters f).A * former_value a (letters f).B) % p ≡ former_value a (letters f).C % p)
  unfolding row_of
  row-letters f = Iff.trans (satisfied (row_of f)) (simp value_normal Iff.rfl)

  pub value-tab : (n : ℕ) (f : ℕ → Term) → former_value a (tab (suc n) f) ≡ former_value a (tab n f) + (f n).residue * a (f n).wire.0
  unfolding former_value tab
  value-tab n f = value-append (tab n f) (f n ∷ []) ∙ omega arith

  -- the weights of n bits above m places
  pub value-weighted : (n m : ℕ) (w : ℕ → WireNumber)
      → former_value a (tab n (λ i. (2 ^ (n + m - 1 - i)) · w i)) ≡ number n (λ i. a (w i).0) * 2 ^ m
  unfolding former_value tab number
  value-weighted zero m w = omega arith
  value-weighted (suc n) m w =
      let bits : ℕ = number n (λ i. a (w i).0) in
      let whole : suc n + m ≡ n + suc m = omega arith in
      let last : n + suc m - 1 - n ≡ m = omega arith in
      let moved : bits * 2 ^ suc m ≡ bits * (2 ^ m * 2) = ap (λ (x : ℕ). bits * x) (pow-suc 2 m) in
      ap (λ (k : ℕ). former_value a (tab (suc n) (λ i. (2 ^ (k - 1 - i)) · w i))) whole
      ∙ value-tab n (λ i. (2 ^ (n + suc m - 1 - i)) · w i)
      ∙ ap₂ (λ (v k : ℕ). v + 2 ^ k * a (w n).0) (value-weighted n (suc m) w) last
      ∙ omega arith

  -- a residue p - k takes k off
  pub value-less : (n : ℕ) (c : ℕ → ℕ) (w : ℕ → WireNumber) → Each n (λ i. c i ≤ p)
      → (former_value a (tab n (λ i. less (c i) · w i)) + former_value a (tab n (λ i. c i · w i))) % p ≡ 0
  unfolding former_value tab
  value-less zero c w h = refl
  value-less (suc n) c w h =
      let last : (p - c n) * a (w n).0 + c n * a (w n).0 ≡ p * a (w n).0 =
      sym (add-mul (p - c n) (c n) (a (w n).0)) ∙ ap (λ (k : ℕ). k * a (w n).0) (sub-add_cancel (h n (le_refl (suc n)))) in
      omega (
        arith,
        value-tab n (λ i. less (c i) · w i),
        value-tab n (λ i. c i · w i),
        value-less n c w (λ i l. h i (omega arith)),
      )
