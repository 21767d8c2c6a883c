-- Rows and wires side by side: a run of rows holds in an assignment exactly where a run of its wires agrees with a
-- sequence. Two combinators carry every proof: first this run and then, given it, that one; and run after run, given
-- the earlier ones.
use Rattle.std.proofs.Common.{◌≡◌, ℕ, ◌+◌, ◌*◌, ◌<◌, ◌↔◌, sym, ap, ◌∙◌, add_assoc}
use mathlib.Core.Logic.Iff
use Rattle.encoding.proofs.Sequence.{Each, each_beside, each_given, each_grid, each_iff}
use Rattle.encoding.specs.Sequence.{beside, grid}
use Rattle.field.specs.Field.{p}
use Rattle.forms.specs.Positions.{wire_at}
use Rattle.forms.specs.Rows.{Satisfied, row_of}
use Rattle.forms.specs.declared.form.Form.{Form}
use Rattle.forms.specs.declared.position.WordPosition.{WordPosition}
use Rattle.sm3.specs.Words.{bit}

-- an assignment that the rows may judge: wire 0 is 1 and every value is a residue
pub record Judged (a : ℕ → ℕ) : Type 0 where
  pub one : a 0 ≡ 1
  pub below : (w : ℕ) → a w < p

-- the first n rows of f are satisfied
abbrev pub Holds : (ℕ → ℕ) → ℕ → (ℕ → Form) → Type 0
Holds a n f = (k : ℕ) → k < n → Satisfied a (row_of (f k))

-- the n wires from w on have the values of s
abbrev pub Agree : (ℕ → ℕ) → ℕ → ℕ → (ℕ → ℕ) → Type 0
Agree a w n s = (k : ℕ) → k < n → a (w + k) ≡ s k

-- the wires of x have the bits of the word X
abbrev pub Reads : (ℕ → ℕ) → WordPosition → ℕ → Type 0
Reads a x X = (i : ℕ) → i < 32 → a (wire_at x i).0 ≡ bit i X

-- two pairs are equivalent if their first parts are and, given those, their second parts
pub and_given : {A B C D : Type 0} → (A ↔ B) → (B → (C ↔ D)) → ((A × C) ↔ (B × D))
and_given e h = (λ x. (e.0 x.0, (h (e.0 x.0)).0 x.1), λ y. (e.1 y.0, (h y.0).1 y.1))

-- a run of wires within a longer one, from its place n on
pub agree_from : (a : ℕ → ℕ) (w n m : ℕ) (s : ℕ → ℕ) → Agree a (w + n) m s ↔ Each m (λ k. a (w + (n + k)) ≡ s k)
agree_from a w n m s =
    (λ h k l. ap a (sym (add_assoc w n k)) ∙ h k l, λ h k l. ap a (add_assoc w n k) ∙ h k l)

-- first one run, then, given it, another
pub then : (a : ℕ → ℕ) (w n m n' m' : ℕ) (f g : ℕ → Form) (s t : ℕ → ℕ)
    → (Holds a n f ↔ Agree a w n' s) → (Agree a w n' s → (Holds a m g ↔ Agree a (w + n') m' t))
    → (Holds a (n + m) (beside n f g) ↔ Agree a w (n' + m') (beside n' s t))
then a w n m n' m' f g s t e h =
    Iff.trans (each_beside (λ k r. Satisfied a (row_of r)) n m f g)
    (Iff.trans (and_given e (λ first. Iff.trans (h first) (agree_from a w n' m' t)))
    (Iff.symm (each_beside (λ k v. a (w + k) ≡ v) n' m' s t)))

-- c runs of m rows and m' wires each, given the earlier ones
pub each : (a : ℕ → ℕ) (w c m m' : ℕ) (f : ℕ → ℕ → Form) (s : ℕ → ℕ → ℕ)
    → ((j : ℕ) → j < c → ((i : ℕ) → i < j → Agree a (w + m' * i) m' (s i)) → (Holds a m (f j) ↔ Agree a (w + m' * j) m' (s j)))
    → (Holds a (c * m) (grid m f) ↔ Agree a w (c * m') (grid m' s))
each a w c m m' f s h =
    Iff.trans (each_grid (λ k r. Satisfied a (row_of r)) c m f)
    (Iff.trans (each_given c (λ j. Holds a m (f j)) (λ j. Agree a (w + m' * j) m' (s j)) h)
    (Iff.trans (each_iff c (λ j. Agree a (w + m' * j) m' (s j)) (λ j. Each m' (λ i. a (w + (m' * j + i)) ≡ s j i))
    (λ j l. agree_from a w (m' * j) m' (s j)))
    (Iff.symm (each_grid (λ k v. a (w + k) ≡ v) c m' s))))
