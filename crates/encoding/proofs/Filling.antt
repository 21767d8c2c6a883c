-- What writes leave, place by place, where a list is the table of a function.
use mathlib.Core.Bool.{cond}
use mathlib.Core.Path.{◌≡◌, sym, ap, ◌∙◌}
use Prim.Native.Nat.{ℕ, ◌+◌, ◌≤◌, ◌<◌}
use native.Mathlib.Decide.{ℕ_discrete, dec_lt}
use native.Mathlib.Omega.{arith}
use borrow.Author.Tests.{eq-eqb, ne_eqb, lt-ltb, le-ltb}
use lib.Dec.{eqb, ltb}
use lib.ListN.{get_or, set, length-set}
use lib.Seq.{get_or-set_same, get_or-set_other, ext_get_or}
use Rattle.encoding.proofs.Tab.{get_or-tab, length-tab, tab_congruent}
use Rattle.encoding.specs.Sequence.{tab}

module _ {A : Type 0} where
  -- f with v at place i
  abbrev pub wrote : (ℕ → A) → ℕ → A → ℕ → A
  wrote f i v k = cond (eqb k i) v (f k)

  pub set-tab : (n : ℕ) (f : ℕ → A) (i : ℕ) (v : A) → i < n → set (tab n f) i v ≡ tab n (wrote f i v)
  set-tab n f i v h =
      ext_get_or v (set (tab n f) i v) (tab n (wrote f i v))
      (length-set (tab n f) i v ∙ length-tab n f ∙ sym (length-tab n (wrote f i v)))
      (λ k l.
      let below : k < n = omega (arith, length-set (tab n f) i v, length-tab n f) in
      at k below (ℕ_discrete k i) ∙ sym (get_or-tab n (wrote f i v) k v below))
    where
      at : (k : ℕ) → k < n → Dec (k ≡ i) → get_or (set (tab n f) i v) k v ≡ wrote f i v k
      at k l (yes e) =
          ap (λ (m : ℕ). get_or (set (tab n f) i v) m v) e
          ∙ get_or-set_same (tab n f) i v v (omega (arith, length-tab n f))
          ∙ sym (simp (eq-eqb k i e))
      at k l (no e) = get_or-set_other (tab n f) i k v v e ∙ get_or-tab n f k v l ∙ sym (simp (ne_eqb k i e))

-- f below k, and 0 from there on
abbrev pub filled : (ℕ → ℕ) → ℕ → ℕ → ℕ
filled f k j = cond (ltb j k) (f j) 0

filled-one-more : (f : ℕ → ℕ) (k j : ℕ) → wrote (filled f k) k (f k) j ≡ filled f (k + 1) j
filled-one-more f k j = by (ℕ_discrete j k) (dec_lt j k)
  where
    by : Dec (j ≡ k) → Dec (j < k) → wrote (filled f k) k (f k) j ≡ filled f (k + 1) j
    by (yes e) d = simp (eq-eqb j k e, lt-ltb j (k + 1) (omega arith)) (ap f (sym e))
    by (no e) (yes l) = simp (ne_eqb j k e, lt-ltb j k l, lt-ltb j (k + 1) (omega arith))
    by (no e) (no l) = simp (ne_eqb j k e, le-ltb j k (omega arith), le-ltb j (k + 1) (omega arith))

-- a loop that fills n zeros from the front
pub set-filled : (n : ℕ) (f : ℕ → ℕ) (k : ℕ) → k < n → set (tab n (filled f k)) k (f k) ≡ tab n (filled f (k + 1))
set-filled n f k h =
    set-tab n (filled f k) k (f k) h ∙ tab_congruent n _ _ (λ j l. filled-one-more f k j)

-- .. and its end, where f is 0 from k on
pub filled_whole : (n : ℕ) (f : ℕ → ℕ) (k : ℕ) → ((j : ℕ) → k ≤ j → f j ≡ 0) → tab n (filled f k) ≡ tab n f
filled_whole n f k rest = tab_congruent n _ _ (λ j l. by j (dec_lt j k))
  where
    by : (j : ℕ) → Dec (j < k) → filled f k j ≡ f j
    by j (yes h) = simp (lt-ltb j k h)
    by j (no h) = simp (le-ltb j k (omega arith)) (sym (rest j (omega arith)))
