-- The lines of a run of rows: none, one more at the end, two runs one behind the other, one more at the front.
use mathlib.Core.List.{List, [], ◌++◌, append_assoc, append-nil}
use mathlib.Core.Path.{◌≡◌, refl, sym, ap, ap₂, ◌∙◌}
use Prim.Native.Nat.{ℕ, zero, suc, ◌+◌}
use native.Mathlib.Nat.{add-zero}
use native.Mathlib.Numerals.{add-one}
use native.Mathlib.Omega.{arith}
use Rattle.listing.specs.Listing.{lines_from}

module _ (of : ℕ → List ℕ) where
  pub lines_none : (k : ℕ) → lines_from of k 0 ≡ []
  unfolding lines_from
  lines_none k = refl

  pub lines_more : (k m : ℕ) → lines_from of k (m + 1) ≡ lines_from of k m ++ of (k + m)
  unfolding lines_from
  lines_more k m = ap (lines_from of k) (add-one m)

  pub lines_split : (k j m : ℕ) → lines_from of k (j + m) ≡ lines_from of k j ++ lines_from of (k + j) m
  unfolding lines_from
  lines_split k j zero = ap (lines_from of k) (add-zero j) ∙ sym (append-nil (lines_from of k j))
  lines_split k j (suc m) =
      let more : j + suc m ≡ suc (j + m) = omega arith in
      let place : k + (j + m) ≡ k + j + m = omega arith in
      ap (lines_from of k) more
      ∙ ap₂ (λ (t : List ℕ) (i : ℕ). t ++ of i) (lines_split k j m) place
      ∙ append_assoc (lines_from of k j) (lines_from of (k + j) m) (of (k + j + m))

  pub lines-front : (k m : ℕ) → lines_from of k (suc m) ≡ of k ++ lines_from of (suc k) m
  unfolding lines_from
  lines-front k m =
      let one : suc m ≡ 1 + m = omega arith in
      ap (lines_from of k) one
      ∙ lines_split k 1 m
      ∙ ap₂ (λ (i j : ℕ). of i ++ lines_from of j m) (add-zero k) (add-one k)
