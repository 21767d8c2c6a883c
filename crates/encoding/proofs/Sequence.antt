-- Sequences by their places. What holds at each of n + m places holds at the first n and at the m after them; what holds at
-- each of c * m places holds at each of m places, c times over. So a fact about each place of two sequences one after the
-- other, or of a grid, is a fact about each place of its parts. And two facts are equivalent at each place if they are so given
-- the second at the places before.
use mathlib.Core.Bool.{cond}
use mathlib.Core.Logic.Iff
use mathlib.Core.Logic.{◌↔◌, by_cases}
use mathlib.Core.Path.{◌≡◌, ◌∙◌, ap, ap₂, subst, sym}
use Prim.Native.Nat.{ℕ, zero, suc, ◌+◌, ◌-◌, ◌*◌, ◌/◌, ◌%◌, ◌<◌, ◌≤◌}
use native.Mathlib.Decide.{dec_lt}
use native.Mathlib.Nat.{div-add-mod, div-lt_iff_lt-mul, le_refl, mod-lt, mul_comm}
use native.Mathlib.Numerals.{add-one}
use native.Mathlib.Omega.{arith}
use borrow.Author.Count.{below_more, below_none}
use borrow.Author.Tests.{le-ltb, lt-ltb}
use lib.Arith.{digits_div, digits_lt, digits_mod}
use Rattle.encoding.specs.Sequence.{beside, grid}

-- P holds at each of the first n places
abbrev pub Each : ℕ → (ℕ → Type 0) → Type 0
Each n P = (k : ℕ) → k < n → P k

-- equivalent at each place, given the second at the places before
pub each_given : (n : ℕ) (P Q : ℕ → Type 0) → ((j : ℕ) → j < n → Each j Q → (P j ↔ Q j)) → (Each n P ↔ Each n Q)
each_given n P Q h = (λ all. grown n (le_refl n) all, λ all j l. (h j l (λ i k. all i (omega arith))).1 (all j l))
  where
    grown : (j : ℕ) → j ≤ n → Each n P → Each j Q
    grown zero l all = below_none Q
    grown (suc j) l all =
        subst (λ k. Each k Q) (add-one j)
        (below_more Q j (grown j (omega arith) all) ((h j l (grown j (omega arith) all)).0 (all j l)))

pub each_iff : (n : ℕ) (P Q : ℕ → Type 0) → ((j : ℕ) → j < n → (P j ↔ Q j)) → (Each n P ↔ Each n Q)
each_iff n P Q h = each_given n P Q (λ j l given. h j l)

-- a product with something below it has no factor 0
positive : (c m k : ℕ) → k < c * m → 0 < m
positive c zero k l = absurd (omega arith)
positive c (suc m) k l = omega arith

module _ (P : ℕ → Type 0) where
  pub each_one : Each 1 P ↔ P 0
  each_one = (λ h. h 0 (omega arith), λ h. below_more P 0 (below_none P) h)

  pub each_two : Each 2 P ↔ (P 0 × P 1)
  each_two = (
    λ h. (h 0 (omega arith), h 1 (omega arith)),
    λ h. below_more P 1 (below_more P 0 (below_none P) h.0) h.1,
  )

  pub each_add : (n m : ℕ) → Each (n + m) P ↔ (Each n P × Each m (λ k. P (n + k)))
  each_add n m = (
    λ h. (λ k l. h k (omega arith), λ k l. h (n + k) (omega arith)),
    λ h k l.
        by_cases (dec_lt k n) (h.0 k)
        (λ past.
        let place : n + (k - n) ≡ k = omega arith in
        subst P place (h.1 (k - n) (omega arith))),
  )

  each_mul : (c m : ℕ) → Each (c * m) P ↔ Each c (λ j. Each m (λ i. P (m * j + i)))
  each_mul c m = (
    λ h j lj i li. h (m * j + i) (subst (λ (k : ℕ). k + i < c * m) (mul_comm j m) (digits_lt lj li)),
    λ h k l.
        let pos : 0 < m = positive c m k l in
        subst P (div-add-mod k m) (h (k / m) ((div-lt_iff_lt-mul pos).1 l) (k % m) (mod-lt k pos)),
  )

pub beside_first : {A : Type 0} (n : ℕ) (f g : ℕ → A) (k : ℕ) → k < n → beside n f g k ≡ f k
unfolding beside
beside_first n f g k h = ap (λ b. cond b (f k) (g (k - n))) (lt-ltb k n h)

pub beside_then : {A : Type 0} (n : ℕ) (f g : ℕ → A) (k : ℕ) → beside n f g (n + k) ≡ g k
unfolding beside
beside_then n f g k =
    let past : n + k - n ≡ k = omega arith in
    ap (λ b. cond b (f (n + k)) (g (n + k - n))) (le-ltb (n + k) n (omega arith)) ∙ ap g past

pub grid-at : {A : Type 0} (m : ℕ) (f : ℕ → ℕ → A) (j i : ℕ) → i < m → grid m f (m * j + i) ≡ f j i
unfolding grid
grid-at m f j i h =
    ap (λ (k : ℕ). f ((k + i) / m) ((k + i) % m)) (mul_comm m j) ∙ ap₂ f (digits_div j h) (digits_mod j h)

-- a fact about each place of a sequence and what stands there
module _ {A : Type 0} (P : ℕ → A → Type 0) where
  pub each_same : (n : ℕ) (at : ℕ → ℕ) (f g : ℕ → A) → ((k : ℕ) → k < n → f k ≡ g k)
      → Each n (λ k. P (at k) (f k)) ↔ Each n (λ k. P (at k) (g k))
  each_same n at f g e =
      each_iff n (λ k. P (at k) (f k)) (λ k. P (at k) (g k))
      (λ k l. (subst (P (at k)) (e k l), subst (P (at k)) (sym (e k l))))

  pub each_beside : (n m : ℕ) (f g : ℕ → A)
      → Each (n + m) (λ k. P k (beside n f g k)) ↔ (Each n (λ k. P k (f k)) × Each m (λ k. P (n + k) (g k)))
  each_beside n m f g =
      Iff.trans (each_add (λ k. P k (beside n f g k)) n m)
      (Iff.and (each_same n (λ k. k) (beside n f g) f (beside_first n f g))
      (each_same m (λ k. n + k) (λ k. beside n f g (n + k)) g (λ k l. beside_then n f g k)))

  pub each_grid : (c m : ℕ) (f : ℕ → ℕ → A)
      → Each (c * m) (λ k. P k (grid m f k)) ↔ Each c (λ j. Each m (λ i. P (m * j + i) (f j i)))
  each_grid c m f =
      Iff.trans (each_mul (λ k. P k (grid m f k)) c m)
      (each_iff c (λ j. Each m (λ i. P (m * j + i) (grid m f (m * j + i)))) (λ j. Each m (λ i. P (m * j + i) (f j i)))
      (λ j l. each_same m (λ i. m * j + i) (λ i. grid m f (m * j + i)) (f j) (grid-at m f j)))
