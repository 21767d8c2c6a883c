-- Bytes that are written one piece after the other are written as one piece, which ends where the last piece ends.
use mathlib.Core.List.{List, [], ◌∷◌, ◌++◌, append_assoc}
use mathlib.Core.Path.{◌≡◌, ◌∙◌, ap, refl, sym}
use Prim.Native.Nat.{ℕ, ◌+◌, ◌≤◌}
use native.Mathlib.Nat.{add-zero, zero-add}
use native.Mathlib.Omega.{arith}
use borrow.Rule.Slice.PartMut.{put_mid}
use Rattle.std.proofs.lemmas.List.Edits.{paste_all, sets-eq}
use Rattle.std.proofs.lemmas.Slice.{put_mid-paste}
use lib.ListN.{drop, length, set, take, length-append}
use lib.Seq.{take_at}
use Rattle.encoding.proofs.Written.{length-written, written-front, written_none, written_one, written_then, written-two}
use Rattle.text.specs.Put.{Put}

pub put_then :
    {l : List ℕ} {at : ℕ} {xs l' : List ℕ} {m : ℕ} {ys l'' : List ℕ} {end : ℕ}
    → Put l at xs l' m
    → Put l' m ys l'' end
    → Put l at (xs ++ ys) l'' end
put_then {xs = xs} {m = m} {ys = ys} p q =
    record {
      ends = omega (arith, p.ends, q.ends, length-append xs ys);
      leaves = written_then m p.ends p.leaves q.leaves;
    }

pub length_put : {l : List ℕ} {at : ℕ} {xs l' : List ℕ} {end : ℕ} → Put l at xs l' end → length l' ≡ length l
length_put p = length-written p.leaves

pub put_none : (l : List ℕ) (at : ℕ) → Put l at [] l at
put_none l at = record { ends = sym (add-zero at); leaves = written_none at l }

pub put_byte : (l : List ℕ) (at b : ℕ) → Put l at (b ∷ []) (set l at b) (at + 1)
put_byte l at b = record { ends = refl; leaves = written_one at b l }

pub put_two : (l : List ℕ) (at x y : ℕ) → Put l at (x ∷ y ∷ []) (set (set l at x) (at + 1) y) (at + 2)
put_two l at x y = record { ends = refl; leaves = written-two at x y l }

-- .. one byte more
pub put_then_byte :
    {l : List ℕ} {at : ℕ} {xs l' : List ℕ} {m : ℕ}
    → Put l at xs l' m
    → (b : ℕ)
    → Put l at (xs ++ (b ∷ [])) (set l' m b) (m + 1)
put_then_byte {l' = l'} {m = m} p b = put_then p (put_byte l' m b)

-- a text is copied into its place
pub put_copied :
    (l : List ℕ) (at : ℕ) (xs ys : List ℕ) (k : ℕ)
    → at + length xs ≤ length l
    → ys ≡ xs
    → k ≡ length xs
    → Put l at xs (put_mid at k l ys) (at + length xs)
put_copied l at xs ys k room same long =
    record {
      ends = refl;
      leaves =
          record {
            left =
                put_mid-paste at k l ys xs (length xs) same (sym long) refl
                ∙ paste_all l at xs (length xs) refl
                ∙ sym (append_assoc (take at l) xs (drop (at + length xs) l))
                ∙ sym (sets-eq xs l at room);
          };
    }

-- what is written at the front stands there
pub put_front : {l xs l' : List ℕ} {end : ℕ} → Put l 0 xs l' end → end ≤ length l → take end l' ≡ xs
put_front {l} {xs} {l'} {end} p fits =
    let long : length xs ≡ end = sym (p.ends ∙ zero-add (length xs)) in
    ap (take end) (written-front end long fits p.leaves) ∙ take_at xs (drop end l) end long
