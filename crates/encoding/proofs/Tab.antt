-- `tab n f` is the list of f 0 to f (n - 1). It grows at its end, so its first m places are `tab m f`, and what stands at a
-- place is the last one of such a shorter list.
use mathlib.Core.List.{List, [], ◌∷◌, ◌++◌, append_assoc, append-nil}
use mathlib.Core.Path.{◌≡◌, refl, sym, ap, ap₂, ◌∙◌}
use Prim.Native.Nat.{ℕ, zero, suc, ◌+◌, ◌≤◌, ◌<◌}
use native.Mathlib.Decide.{le_ind}
use native.Mathlib.Nat.{add-suc, add-zero, le_of_eq}
use native.Mathlib.Omega.{arith}
use lib.ListN.{length, get_or, take, length-append}
use lib.Seq.{get_or_at, get_or-take, take_all, take-append-le}
use Rattle.encoding.specs.Sequence.{tab}

module _ {A : Type 0} where
  pub length-tab : (n : ℕ) (f : ℕ → A) → length (tab n f) ≡ n
  unfolding tab
  length-tab zero f = refl
  length-tab (suc n) f = omega (arith, length-append (tab n f) (f n ∷ []), length-tab n f)

  pub take-tab : (m n : ℕ) (f : ℕ → A) → m ≤ n → take m (tab n f) ≡ tab m f
  unfolding tab
  take-tab m n f h =
      le_ind (λ (k : ℕ). take m (tab k f) ≡ tab m f)
      (take_all m (tab m f) (le_of_eq (length-tab m f)))
      (λ k l e. take-append-le m (tab k f) (f k ∷ []) (omega (arith, length-tab k f)) ∙ e)
      n h

  pub get_or-tab : (n : ℕ) (f : ℕ → A) (k : ℕ) (d : A) → k < n → get_or (tab n f) k d ≡ f k
  unfolding tab
  get_or-tab n f k d h =
      sym (get_or-take (suc k) (tab n f) k d (omega arith))
      ∙ ap (λ (l : List A). get_or l k d) (take-tab (suc k) n f h)
      ∙ get_or_at (tab k f) (f k) [] d k (length-tab k f)

  pub tab_congruent : (n : ℕ) (f g : ℕ → A) → ((k : ℕ) → k < n → f k ≡ g k) → tab n f ≡ tab n g
  unfolding tab
  tab_congruent zero f g e = refl
  tab_congruent (suc n) f g e =
      ap₂ (λ l x. l ++ (x ∷ [])) (tab_congruent n f g (λ k h. e k (omega arith))) (e n (omega arith))

  -- the first n places, then m more
  pub tab-add : (n m : ℕ) (f : ℕ → A) → tab (n + m) f ≡ tab n f ++ tab m (λ k. f (n + k))
  unfolding tab
  tab-add n zero f = ap (λ k. tab k f) (add-zero n) ∙ sym (append-nil (tab n f))
  tab-add n (suc m) f =
      ap (λ k. tab k f) (add-suc n m)
      ∙ ap (λ l. l ++ (f (n + m) ∷ [])) (tab-add n m f)
      ∙ append_assoc (tab n f) (tab m (λ k. f (n + k))) (f (n + m) ∷ [])
