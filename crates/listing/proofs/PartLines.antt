-- The lines of one more term of a part go behind those of the terms before it.
use mathlib.Core.List.{List, [], ◌∷◌, ◌++◌, append_assoc, append-nil}
use mathlib.Core.Path.{◌≡◌, ap, refl, sym, ◌∙◌}
use Prim.Native.Nat.{ℕ, ◌+◌, ◌<◌}
use native.Mathlib.Numerals.{add-one}
use lib.ListN.{get_or, length, take}
use lib.Seq.{take-suc}
use Rattle.forms.specs.Coefficients.{coefficient}
use Rattle.forms.specs.declared.form.Term.{Term}
use Rattle.listing.specs.Rows.{part_lines, term_line}

module _ (row part : ℕ) where
  parts_append : (ts us : List Term) → part_lines row part (ts ++ us) ≡ part_lines row part ts ++ part_lines row part us
  unfolding part_lines
  parts_append [] us = refl
  parts_append (t ∷ ts) us =
      let line = term_line row part t.wire.0 (coefficient t) in
      ap (λ l. line ++ l) (parts_append ts us) ∙ sym (append_assoc line (part_lines row part ts) (part_lines row part us))

  pub part-next : (ts : List Term) (i : ℕ) (d : Term) → i < length ts
      → part_lines row part (take (i + 1) ts)
      ≡ part_lines row part (take i ts) ++ term_line row part (get_or ts i d).wire.0 (coefficient (get_or ts i d))
  unfolding part_lines
  part-next ts i d low =
      ap (λ k. part_lines row part (take k ts)) (add-one i)
      ∙ ap (part_lines row part) (take-suc ts i d low)
      ∙ parts_append (take i ts) (get_or ts i d ∷ [])
      ∙ ap (λ l. part_lines row part (take i ts) ++ l) (append-nil _)
