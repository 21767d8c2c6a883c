-- The form of each row's place is what stands there where the words' forms are laid out as the rows are.
use mathlib.Core.Path.{◌≡◌, ◌∙◌, refl, sym}
use Prim.Native.Nat.{ℕ, ◌<◌}
use Rattle.block.specs.Steps.{place}
use Rattle.block.specs.declared.place.Place.{Place}
use Rattle.circuit.proofs.place.WordByWord.{word_by_word}
use Rattle.circuit.specs.Circuit.{form_at, form_of}
use Rattle.circuit.specs.Circuits.{appended_rows, block_count}
use Rattle.circuit.specs.Places.{frame_layout, place_at, row_count}
use Rattle.circuit.specs.declared.circuits.Circuit.{Circuit}
use Rattle.encoding.proofs.Sequence.{Each, beside_first, beside_then, each_beside, each_grid, grid-at}
use Rattle.encoding.specs.Sequence.{beside, grid}
use Rattle.forms.specs.declared.form.Form.{Form}

module _ (C : Circuit) where
  -- the form of a place
  abbrev form : Place → Form
  form p = form_of C p.block p.step p.index p.line

  abbrev pub whole_forms : ℕ → Form
  whole_forms = frame_layout (block_count C) (λ s i. form_of C i s)

  pub form-at : 0 < block_count C → (k : ℕ) → k < row_count C → form_at C k ≡ whole_forms k
  unfolding form_at place_at row_count
  form-at some =
      word_by_word (λ c f g. Each c (λ k. form (f k) ≡ g k))
      (λ c m f g f' g' a b.
      (each_beside (λ k p. form p ≡ beside c f' g' k) c m f g).1
      (λ k l. a k l ∙ sym (beside_first c f' g' k l), λ k l. b k l ∙ sym (beside_then c f' g' k)))
      (λ c m f f' a. (each_grid (λ k p. form p ≡ grid m f' k) c m f).1 (λ j h l b. a j h l b ∙ sym (grid-at m f' j l b)))
      (block_count C) (appended_rows C) some place (λ s i. form_of C i s) (λ s i j a b l h. refl)
