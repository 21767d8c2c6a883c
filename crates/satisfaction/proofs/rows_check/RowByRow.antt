-- A row as the check judges it. The terms of the row's form are held, without the zero ones and in the letters' order; their values are those
-- of the row, where they stand sorted, and residues tell of it what its coefficients do.
use mathlib.Core.List.{List, ◌++◌}
use mathlib.Core.Path.{◌≡◌, ◌∙◌, ap, ap₂, subst, sym}
use Prim.Native.Nat.{ℕ, ◌+◌, ◌-◌, ◌*◌, ◌%◌, ◌≤◌, ◌<◌}
use native.Mathlib.Omega.{arith}
use lib.Dec.{eqb}
use lib.ListN.{get_or, length, length-append}
use Rattle.assignment.specs.Assignment.{entry}
use Rattle.circuit.proofs.shape.Shape.{letters-within}
use Rattle.circuit.specs.Circuit.{form_at, row_at}
use Rattle.circuit.specs.Places.{row_count}
use Rattle.circuit.specs.Ranges.{Allowed}
use Rattle.circuit.specs.Wires.{wire_count}
use Rattle.circuit.specs.declared.circuits.Circuit.{Circuit}
use Rattle.field.specs.Field.{p}
use Rattle.forms.proofs.exact.Signed.{rows_unaltered}
use Rattle.forms.proofs.exact.Values.{value-nonzero, value_normal}
use Rattle.forms.proofs.shape.All.{all_listed}
use Rattle.forms.proofs.terms.Indexed.{none}
use Rattle.forms.specs.Former.{former_holds, former_value}
use Rattle.forms.specs.Rows.{Row, holds, letters, nonzero, normal_form, row_of, terms}
use Rattle.forms.specs.Shape.{most_terms}
use Rattle.forms.specs.Terms.{all_terms, counted, held, term_count, unsorted}
use Rattle.forms.specs.declared.form.Form.{Form}
use Rattle.forms.specs.declared.form.Term.{Term}
use Rattle.forms.specs.declared.terms.Counts.{Counts}
use Rattle.forms.specs.declared.terms.RowTerms.{RowTerms}
use Rattle.satisfaction.proofs.sums.TermByTerm.{judged, sums_next, sums_to, worth}
use Rattle.satisfaction.specs.Sums.{added}
use Rattle.satisfaction.specs.Lowest.{lowest}
use Rattle.satisfaction.specs.declared.sums.Sums.{Sums}

-- the row of a form is satisfied where that of its letters is
holds-letters : (e : ℕ → ℕ) (f : Form) → former_holds e (unsorted f) ≡ holds e (row_of f)
unfolding former_holds row_of unsorted
holds-letters e f =
    let row = letters f in
    let same : (us : List Term) → former_value e (nonzero us) ≡ former_value e (normal_form us) = λ us. value-nonzero e us ∙ sym (value_normal e us) in
    ap₂ eqb (ap₂ (λ x y. (x * y) % p) (same row.A) (same row.B)) (ap (λ v. v % p) (same row.C))
    ∙ sym (rows_unaltered e (row_of f))

-- the terms of a form that is a row's are those of the row, and few
module _ (f g : Form) (t : RowTerms) where
  pub filled_as : f ≡ g → t ≡ held (unsorted f) → t ≡ held (unsorted g)
  filled_as e h = h ∙ ap (λ x. held (unsorted x)) e

  pub few : term_count f ≤ most_terms → t ≡ held (unsorted f) → (n : Counts) → n ≡ counted t → n.a + n.b + n.c ≤ most_terms
  unfolding terms
  few h e n en =
      omega (
        arith,
        h,
        ap (λ (m : Counts). m.a + m.b + m.c) (en ∙ ap counted e),
        length-append ((unsorted f).A ++ (unsorted f).B) (unsorted f).C,
        length-append (unsorted f).A (unsorted f).B,
      )

-- Row k of a circuit, whose terms are held.
module _ (C : Circuit) (k : ℕ) (held_terms : RowTerms) (is : held_terms ≡ held (unsorted (form_at C k))) where
  abbrev row : Row
  row = unsorted (form_at C k)

  same_terms : all_terms held_terms ≡ terms row
  unfolding terms
  same_terms = ap all_terms is

  pub term_total : (n : Counts) → n ≡ counted held_terms → n.a + n.b + n.c ≡ length (terms row)
  unfolding terms
  term_total n e = omega (arith, ap (λ (m : Counts). m.a + m.b + m.c) (e ∙ ap counted is), length-append (row.A ++ row.B) row.C, length-append row.A row.B)

  -- what the sums of all its terms tell is told of it
  pub row_judged : (e : ℕ → ℕ) (s : Sums) (t : ℕ) (n : Counts) → n ≡ counted held_terms → s ≡ sums_to e row t → t ≡ n.a + n.b + n.c
      → eqb ((s.a * s.b) % p) s.c ≡ holds e (row_at C k)
  unfolding row_at
  row_judged e s t n en es et = rw es (judged e row t (omega (arith, term_total n en))) ∙ holds-letters e (form_at C k)

  -- its term t
  module _ (n : Counts) (en : n ≡ counted held_terms) (t : ℕ) (l : t < n.a + n.b + n.c) where
    inside : t < length (terms row)
    inside = omega (arith, term_total n en)

    pub term_inside : t < length (all_terms held_terms)
    term_inside = omega (arith, inside, ap length same_terms)

    module _ (u : Term) (eu : (d : Term) → u ≡ get_or (all_terms held_terms) t d) where
      listed : (d : Term) → u ≡ get_or (terms row) t d
      listed d = eu d ∙ ap (λ ts. get_or ts t d) same_terms

      -- its wire is not past the last, and its residue is below p
      pub term_within : Allowed C → k < row_count C → (u.wire.0 < wire_count C) × (u.residue < p)
      term_within allowed below =
          let Within : Term → Type 0 = λ v. (v.wire.0 < wire_count C) × (v.residue < p) in
          subst Within (sym (listed none)) (all_listed Within (terms row) (letters-within C allowed k below) t none inside)

      -- with what it adds, the sums are those of one term more
      pub term_added : (e : ℕ → ℕ) (s s' : Sums) (x : ℕ) → s ≡ sums_to e row t → x ≡ worth e u → s' ≡ added s n t x → s' ≡ sums_to e row (t + 1)
      term_added e s s' x es ex es' =
          es'
          ∙ ap₂ (λ s x. added s n t x) es (ex ∙ ap (worth e) (listed none))
          ∙ sums_next e row n (ap (λ (m : Counts). m.a) (en ∙ ap counted is)) (ap (λ (m : Counts). m.b) (en ∙ ap counted is)) t inside

-- before a turn at row k all rows below it hold
pub record Turn (C : Circuit) (bytes : List ℕ) (k : ℕ) : Type 0 where
  pub within : k ≤ row_count C
  pub lower : lowest (entry bytes) (row_at C) 0 (row_count C) ≡ lowest (entry bytes) (row_at C) k (row_count C - k)

-- .. and where k is not their count, there is a row k
pub row_below : {C : Circuit} {bytes : List ℕ} {k end : ℕ} → Turn C bytes k → (k ≡ end → ⊥) → end ≡ row_count C → k < row_count C
row_below turn other e = omega (arith, turn.within)
