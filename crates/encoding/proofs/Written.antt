-- Values that are written one piece after the other are written as one piece: a piece goes to the place where the one before
-- it ends. Since writes to places apart may change their order, the later piece may come first. A piece at the front leaves itself and then what stood there before.
use mathlib.Core.List.{List, [], ◌∷◌, ◌++◌}
use mathlib.Core.Path.{◌≡◌, ◌∙◌, ap, ap₂, refl}
use Prim.Native.Nat.{ℕ, suc, ◌+◌, ◌<◌, ◌≤◌}
use native.Mathlib.Nat.{add-zero, zero-add}
use native.Mathlib.Numerals.{add-one}
use native.Mathlib.Omega.{arith}
use lib.ListN.{drop, length, set}
use lib.Seq.{length-sets, set_comm, sets, sets-eq}
use Rattle.encoding.specs.Written.{Written}

sets-append : (xs ys l : List ℕ) (i : ℕ) → sets (sets l i xs) (i + length xs) ys ≡ sets l i (xs ++ ys)
sets-append [] ys l i = ap (λ k. sets l k ys) (add-zero i)
sets-append (x ∷ xs) ys l i =
    let place : i + suc (length xs) ≡ suc i + length xs = omega arith in
    ap (λ k. sets (sets (set l i x) (suc i) xs) k ys) place ∙ sets-append xs ys (set l i x) (suc i)

-- writes to places apart may be done in either order
set_before : (ys l : List ℕ) (i b x : ℕ) → i < b → set (sets l b ys) i x ≡ sets (set l i x) b ys
set_before [] l i b x h = refl
set_before (y ∷ ys) l i b x h =
    set_before ys (set l b y) i (suc b) x (omega arith)
    ∙ ap (λ m. sets m (suc b) ys) (set_comm l b i y x (λ e. absurd (omega arith)))

sets-before : (xs ys l : List ℕ) (i b : ℕ) → i + length xs ≤ b → sets (sets l b ys) i xs ≡ sets (sets l i xs) b ys
sets-before [] ys l i b h = refl
sets-before (x ∷ xs) ys l i b h =
    ap (λ m. sets m (suc i) xs) (set_before ys l i b x (omega arith)) ∙ sets-before xs ys (set l i x) (suc i) b (omega arith)

pub length-written : {at : ℕ} {xs l l' : List ℕ} → Written at xs l l' → length l' ≡ length l
length-written {at} {xs} {l} h = ap length h.left ∙ length-sets l at xs

pub written_none : (at : ℕ) (l : List ℕ) → Written at [] l l
written_none at l = record { left = refl }

pub written_one : (at x : ℕ) (l : List ℕ) → Written at (x ∷ []) l (set l at x)
written_one at x l = record { left = refl }

pub written-two : (at x y : ℕ) (l : List ℕ) → Written at (x ∷ y ∷ []) l (set (set l at x) (at + 1) y)
written-two at x y l = record { left = ap (λ k. set (set l at x) k y) (add-one at) }

-- one piece after the other: the second begins at `end`, where the first ends
pub written_then : {at : ℕ} {xs ys l l' l'' : List ℕ} (end : ℕ) → end ≡ at + length xs → Written at xs l l'
    → Written end ys l' l'' → Written at (xs ++ ys) l l''
written_then {at} {xs} {ys} {l} end e h h' =
    record { left = h'.left ∙ ap₂ (λ b k. sets b k ys) h.left e ∙ sets-append xs ys l at }

-- pieces apart may be written in either order
pub written_apart : {at b : ℕ} {xs ys l l' l'' : List ℕ} → at + length xs ≤ b → Written b ys l l' → Written at xs l' l''
    → (m : List ℕ) × Written at xs l m × Written b ys m l''
written_apart {at} {b} {xs} {ys} {l} room h h' = (
  sets l at xs,
  record { left = refl },
  record { left = h'.left ∙ ap (λ m. sets m at xs) h.left ∙ sets-before xs ys l at b room },
)

-- .. or the second piece first
pub written-before : {at : ℕ} {xs ys l l' l'' : List ℕ} (end : ℕ) → end ≡ at + length xs → Written end ys l l'
    → Written at xs l' l'' → Written at (xs ++ ys) l l''
written-before end e h h' =
    let apart = written_apart (omega arith) h h' in
    written_then end e apart.1 apart.2

-- the same values, said otherwise
pub written_as : {at : ℕ} {xs ys l l' : List ℕ} → xs ≡ ys → Written at xs l l' → Written at ys l l'
written_as {at} {xs} {ys} {l} e h = record { left = h.left ∙ ap (sets l at) e }

-- at the front: the n values, and then what stood there before
pub written-front : {xs l l' : List ℕ} (n : ℕ) → length xs ≡ n → n ≤ length l → Written 0 xs l l' → l' ≡ xs ++ drop n l
written-front {xs} {l} n long room h =
    let end : 0 + length xs ≡ n = omega (arith, zero-add n) in
    h.left ∙ sets-eq xs l 0 (omega arith) ∙ ap (λ k. xs ++ drop k l) end
