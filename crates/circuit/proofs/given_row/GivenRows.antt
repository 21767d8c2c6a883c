-- The answer by its cases, test by test, and what a row that is given leaves in the buffer.
use Rattle.std.specs.Prelude.{Err, Ok}
use mathlib.Core.List.{List, ◌++◌}
use mathlib.Core.Path.{◌≡◌, ◌∙◌, ap, subst, sym}
use Prim.Native.Nat.{ℕ, ◌+◌, ◌*◌, ◌<◌, ◌≤◌}
use native.Mathlib.Omega.{arith}
use borrow.Author.Tests.{le-leb, le-ltb, lt-leb, lt-ltb}
use lib.ListN.{length, length-append}
use Rattle.circuit.specs.Circuit.{row_at}
use Rattle.circuit.proofs.shape.Coefficients.{residues_below}
use Rattle.circuit.proofs.shape.Shape.{shape}
use Rattle.circuit.specs.GivenRow.{counted, given_left, given_row, row_bytes}
use Rattle.circuit.specs.Places.{row_count}
use Rattle.circuit.specs.Ranges.{Allowed}
use Rattle.circuit.specs.declared.circuits.Circuit.{Circuit}
use Rattle.encoding.proofs.Written.{written-front}
use Rattle.encoding.specs.Written.{Written}
use Rattle.field.specs.Field.{p}
use Rattle.forms.proofs.shape.All.{all_behind, all_front}
use Rattle.forms.proofs.term_bytes.TermBytes.{length-terms}
use Rattle.forms.specs.Rows.{terms}
use Rattle.forms.specs.Shape.{All, most_terms}
use Rattle.forms.specs.TermBytes.{terms_bytes}
use Rattle.forms.specs.Terms as kept
use Rattle.forms.specs.Terms.{all_terms, held}
use Rattle.forms.specs.declared.form.Term.{Term}
use Rattle.forms.specs.declared.terms.Counts.{Counts}
use Rattle.forms.specs.declared.terms.RowTerms.{RowTerms}
use Rattle.refusal.specs.declared.outcome.Refusal.TheVariants.{BufferTooShort, RowOutOfRange}

module _ (C : Circuit) (k room : ℕ) where
  pub row_outside : row_count C ≤ k → Err RowOutOfRange ≡ given_row C k room
  unfolding given_row
  row_outside h = sym (rw (le-leb (row_count C) k h))

  pub room_short : k < row_count C → room < row_bytes → Err BufferTooShort ≡ given_row C k room
  unfolding given_row
  room_short h i = sym (rw (lt-leb (row_count C) k h, lt-ltb room row_bytes i))

-- a row's terms, which are held, have room in the buffer and residues below p; and what they leave

module _ (C : Circuit) (allowed : Allowed C) (k : ℕ) (below : k < row_count C) (t : RowTerms) (is : t ≡ held (row_at C k)) where
  same_terms : all_terms t ≡ terms (row_at C k)
  unfolding terms
  same_terms = ap all_terms is

  pub row_fits : (room : ℕ) → row_bytes ≤ room → 12 * length (all_terms t) ≤ room
  row_fits room h = omega (arith, ap length same_terms, (shape C allowed k below).few)

  pub row_residues : All (λ u. u.residue < p) (all_terms t)
  row_residues = subst (All (λ (u : Term). u.residue < p)) (sym same_terms) (residues_below C allowed k below)

  pub row_given : (n : Counts) (room : ℕ) → row_bytes ≤ room → n ≡ kept.counted t → Ok n ≡ given_row C k room
  unfolding counted given_row
  row_given n room h e = ap (λ m. Ok m) (e ∙ ap kept.counted is) ∙ sym (rw (lt-leb (row_count C) k below, le-ltb room row_bytes h))

  pub row_left : (n : Counts) (out left : List ℕ) → row_bytes ≤ length out → Written 0 (terms_bytes (all_terms t)) out left → left ≡ given_left (Ok n) C k out
  unfolding given_left
  row_left n out left room e =
      written-front (12 * length (terms (row_at C k))) (length-terms (terms (row_at C k)))
      (omega (arith, (shape C allowed k below).few)) (rw same_terms at e)

  -- part by part

  pub parts_few : length t.a + length t.b + length t.c ≤ most_terms
  parts_few = omega (arith, ap length same_terms, (shape C allowed k below).few, length-append (t.a ++ t.b) t.c, length-append t.a t.b)

  abbrev Below : List Term → Type 0
  Below us = All (λ u. u.residue < p) us

  pub parts_below : Below t.a × Below t.b × Below t.c
  parts_below =
      let P : Term → Type 0 = λ u. u.residue < p in
      let front = all_front P (t.a ++ t.b) t.c row_residues in
      (all_front P t.a t.b front, all_behind P t.a t.b front, all_behind P (t.a ++ t.b) t.c row_residues)
