-- What holds of each one of a list, or of each one and every one after it, holds of the parts that the list is put together
-- from, and the other way round. By induction along the list.
use Rattle.std.proofs.Common.{◌≡◌, ℕ, zero, suc, ◌<◌, Bool, true, false, cond, List, [], ◌∷◌, ◌++◌, length, get_or, refl, arith}
use Rattle.encoding.specs.Sequence.{tab}
use Rattle.forms.specs.Shape.{All, Pairwise}

-- what holds of both answers of a test holds of the answer
pub of_cond : {A : Type 0} (P : A → Type 0) (b : Bool) {x y : A} → (b ≡ true → P x) → (b ≡ false → P y) → P (cond b x y)
of_cond P true h k = h refl
of_cond P false h k = k refl

module _ {A : Type 0} (P Q : A → Type 0) where
  pub all_map : ((x : A) → P x → Q x) → (xs : List A) → All P xs → All Q xs
  all_map h [] a = tt
  all_map h (x ∷ xs) a = (h x a.0, all_map h xs a.1)

  pub all_both : (xs : List A) → All P xs → All Q xs → All (λ x. P x × Q x) xs
  all_both [] a b = tt
  all_both (x ∷ xs) a b = ((a.0, b.0), all_both xs a.1 b.1)

module _ {A : Type 0} (P : A → Type 0) where
  pub all_append : (xs ys : List A) → All P xs → All P ys → All P (xs ++ ys)
  all_append [] ys a b = b
  all_append (x ∷ xs) ys a b = (a.0, all_append xs ys a.1 b)

  pub all_front : (xs ys : List A) → All P (xs ++ ys) → All P xs
  all_front [] ys a = tt
  all_front (x ∷ xs) ys a = (a.0, all_front xs ys a.1)

  pub all_behind : (xs ys : List A) → All P (xs ++ ys) → All P ys
  all_behind [] ys a = a
  all_behind (x ∷ xs) ys a = all_behind xs ys a.1

  pub all_listed : (xs : List A) → All P xs → (i : ℕ) (d : A) → i < length xs → P (get_or xs i d)
  all_listed [] a i d h = absurd (omega arith)
  all_listed (x ∷ xs) a zero d h = a.0
  all_listed (x ∷ xs) a (suc i) d h = all_listed xs a.1 i d (omega arith)

  pub all_tab : (n : ℕ) (f : ℕ → A) → ((i : ℕ) → i < n → P (f i)) → All P (tab n f)
  unfolding tab
  all_tab zero f h = tt
  all_tab (suc n) f h = all_append (tab n f) (f n ∷ []) (all_tab n f (λ i l. h i (omega arith))) (h n (omega arith), tt)

module _ {A : Type 0} (R : A → A → Type 0) where
  -- .. and each of the first with each of the second
  pub pairwise_append : (xs ys : List A) → Pairwise R xs → Pairwise R ys → All (λ x. All (R x) ys) xs → Pairwise R (xs ++ ys)
  pairwise_append [] ys a b h = b
  pairwise_append (x ∷ xs) ys a b h =
      (all_append (R x) xs ys a.0 h.0, pairwise_append xs ys a.1 b h.1)

  pub pairwise_tab : (n : ℕ) (f : ℕ → A) → ((i j : ℕ) → i < j → j < n → R (f i) (f j)) → Pairwise R (tab n f)
  unfolding tab
  pairwise_tab zero f h = tt
  pairwise_tab (suc n) f h =
      pairwise_append (tab n f) (f n ∷ []) (pairwise_tab n f (λ i j l k. h i j l (omega arith))) (tt, tt)
      (all_tab (λ x. All (R x) (f n ∷ [])) n f (λ i l. (h i n l (omega arith), tt)))
