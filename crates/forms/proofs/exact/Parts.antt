-- Runs of wires taken apart, and the two combinators of runs where the wires stand at given places. A run of one sequence
-- and then another is a run of the one and a run of the other; a run of a grid is a run for each of its rows.
use Rattle.std.proofs.Common.{◌≡◌, ℕ, ◌+◌, ◌*◌, ◌<◌, ◌↔◌, sym, subst}
use mathlib.Core.Logic.Iff
use Rattle.encoding.proofs.Sequence.{each_beside, each_grid}
use Rattle.encoding.specs.Sequence.{beside, grid}
use Rattle.forms.proofs.exact.Runs.{Agree, Holds, agree_from, and_given, each, then}
use Rattle.forms.specs.declared.form.Form.{Form}

module _ (a : ℕ → ℕ) where
  -- the same run, by another name of its first wire
  pub agree_at : (w u n : ℕ) (s : ℕ → ℕ) → w ≡ u → Agree a w n s → Agree a u n s
  agree_at w u n s e = subst (λ v. Agree a v n s) e

  pub agree_beside : (w n m : ℕ) (s t : ℕ → ℕ) → Agree a w (n + m) (beside n s t) ↔ (Agree a w n s × Agree a (w + n) m t)
  agree_beside w n m s t =
      Iff.trans (each_beside (λ k v. a (w + k) ≡ v) n m s t) (and_given Iff.rfl (λ first. Iff.symm (agree_from a w n m t)))

  pub agree_first : (w n m : ℕ) (s t : ℕ → ℕ) → Agree a w (n + m) (beside n s t) → Agree a w n s
  agree_first w n m s t h = ((agree_beside w n m s t).0 h).0

  -- what follows, from u on
  pub agree_past : (w u n m : ℕ) (s t : ℕ → ℕ) → w + n ≡ u → Agree a w (n + m) (beside n s t) → Agree a u m t
  agree_past w u n m s t e h = agree_at (w + n) u m t e ((agree_beside w n m s t).0 h).1

  pub agree_row : (w c m : ℕ) (s : ℕ → ℕ → ℕ) → Agree a w (c * m) (grid m s) → (j : ℕ) → j < c → Agree a (w + m * j) m (s j)
  agree_row w c m s h j l = (agree_from a w (m * j) m (s j)).1 ((each_grid (λ k v. a (w + k) ≡ v) c m s).0 h j l)

  -- `then`, where the second run begins at u
  pub then_at : (w u n m n' m' : ℕ) (f g : ℕ → Form) (s t : ℕ → ℕ) → w + n' ≡ u
      → (Holds a n f ↔ Agree a w n' s) → (Agree a w n' s → (Holds a m g ↔ Agree a u m' t))
      → (Holds a (n + m) (beside n f g) ↔ Agree a w (n' + m') (beside n' s t))
  then_at w u n m n' m' f g s t e first second =
      then a w n m n' m' f g s t first (λ h. subst (λ v. Holds a m g ↔ Agree a v m' t) (sym e) (second h))

  -- `each`, where run j begins at u j
  pub each_at : (w c m m' : ℕ) (u : ℕ → ℕ) (f : ℕ → ℕ → Form) (s : ℕ → ℕ → ℕ) → ((j : ℕ) → u j ≡ w + m' * j)
      → ((j : ℕ) → j < c → ((i : ℕ) → i < j → Agree a (u i) m' (s i)) → (Holds a m (f j) ↔ Agree a (u j) m' (s j)))
      → (Holds a (c * m) (grid m f) ↔ Agree a w (c * m') (grid m' s))
  each_at w c m m' u f s e h =
      each a w c m m' f s
      (λ j l given.
      subst (λ v. Holds a m (f j) ↔ Agree a v m' (s j)) (e j)
      (h j l (λ i k. agree_at (w + m' * i) (u i) m' (s i) (sym (e i)) (given i k))))
