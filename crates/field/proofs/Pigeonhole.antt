-- No n + 1 numbers below n differ from one another: without the last of them, and with those above it moved down by one, there
-- are n that differ below n - 1, and so on down to one number below 0.
use mathlib.Core.Logic.{◌≢◌, by_cases}
use Prim.Native.Nat.{ℕ, zero, suc, ◌+◌, ◌-◌, ◌≤◌, ◌<◌, min}
use native.Mathlib.Decide.{dec_lt}
use native.Mathlib.Nat.{le_refl, not-suc-le-zero}
use native.Mathlib.Omega.{arith}

-- a number other than v, with those above v moved down by one
skip : ℕ → ℕ → ℕ
skip v x = min x v + (x - suc v)

skip_below : (n v x : ℕ) → v < suc n → x < suc n → x ≢ v → skip v x < n
unfolding skip
skip_below n v x hv hx other = omega arith

skip_less : (v x y : ℕ) → x ≢ v → x < y → skip v x < skip v y
unfolding skip
skip_less v x y other h = omega arith

skip_apart : (v x y : ℕ) → x ≢ v → y ≢ v → x ≢ y → skip v x ≢ skip v y
skip_apart v x y hx hy differ e =
    by_cases (dec_lt x y) (λ h. omega (arith, skip_less v x y hx h)) (λ h. omega (arith, skip_less v y x hy (omega arith)))

pub pigeonhole : (n : ℕ) (f : ℕ → ℕ) → ((i : ℕ) → i ≤ n → f i < n) → ((i j : ℕ) → i < j → j ≤ n → f i ≢ f j) → ⊥
pigeonhole zero f below apart = not-suc-le-zero (below 0 (le_refl 0))
pigeonhole (suc n) f below apart =
    let last : (i : ℕ) → i ≤ n → f i ≢ f (suc n) = λ i h. apart i (suc n) (omega arith) (le_refl (suc n)) in
    pigeonhole n (λ i. skip (f (suc n)) (f i))
    (λ i h. skip_below n _ _ (below (suc n) (le_refl (suc n))) (below i (omega arith)) (last i h))
    (λ i j l h. skip_apart _ _ _ (last i (omega arith)) (last j h) (apart i j l (omega arith)))
