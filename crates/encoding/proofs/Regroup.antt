-- Sequences that are the same at every place, grouped otherwise: three one after the other from the left or from the right, and
-- the first rows of a grid and then its others.
use mathlib.Core.Logic.{by_cases}
use mathlib.Core.Path.{◌≡◌, ◌∙◌, ap, ap₂, fun_ext, refl, subst, sym}
use Prim.Native.Nat.{ℕ, ◌+◌, ◌-◌, ◌*◌, ◌<◌}
use native.Mathlib.Decide.{dec_lt}
use native.Mathlib.Nat.{add_assoc, mul-add-div_right, mul-add-mod_self_right}
use native.Mathlib.Omega.{arith}
use Rattle.encoding.proofs.Sequence.{beside_first, beside_then}
use Rattle.encoding.specs.Sequence.{beside, grid}

-- a sequence is two one after the other if it begins as the first and goes on as the second
beside_of : {A : Type 0} (n : ℕ) (f g h : ℕ → A) → ((k : ℕ) → k < n → f k ≡ h k) → ((k : ℕ) → g k ≡ h (n + k))
    → beside n f g ≡ h
beside_of n f g h first past =
    fun_ext
    (λ k.
    by_cases (dec_lt k n) (λ l. beside_first n f g k l ∙ first k l)
    (λ l.
    let place : n + (k - n) ≡ k = omega arith in
    subst (λ i. beside n f g i ≡ h i) place (beside_then n f g (k - n) ∙ past (k - n))))

pub beside_assoc : {A : Type 0} (n m : ℕ) (f g h : ℕ → A) → beside n f (beside m g h) ≡ beside (n + m) (beside n f g) h
beside_assoc n m f g h =
    sym
    (beside_of (n + m) (beside n f g) h (beside n f (beside m g h))
    (λ k l.
    by_cases (dec_lt k n) (λ first. beside_first n f g k first ∙ sym (beside_first n f (beside m g h) k first))
    (λ past.
    let place : n + (k - n) ≡ k = omega arith in
    subst (λ i. beside n f g i ≡ beside n f (beside m g h) i) place
    (beside_then n f g (k - n) ∙ sym (beside_then n f (beside m g h) (k - n) ∙ beside_first m g h (k - n) (omega arith)))))
    (λ k.
    sym (ap (beside n f (beside m g h)) (add_assoc n m k) ∙ beside_then n f (beside m g h) (m + k) ∙ beside_then m g h k)))

pub beside-grid : {A : Type 0} (c m : ℕ) (s : ℕ → ℕ → A) → 0 < m
    → beside (c * m) (grid m s) (grid m (λ j. s (c + j))) ≡ grid m s
unfolding grid
beside-grid c m s pos =
    beside_of (c * m) _ _ (grid m s) (λ k l. refl)
    (λ k. sym (ap₂ s (mul-add-div_right pos c k) (mul-add-mod_self_right c m k)))
