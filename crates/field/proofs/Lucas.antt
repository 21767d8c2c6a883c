-- Lucas's criterion: where some g has the order p - 1 modulo p, only 0 divides zero modulo p. The powers of g from 0 to p - 2
-- all differ, and none of them divides zero, since each has a power of g for an inverse. If beside 0 some a divided zero, those
-- would be p + 1 different numbers below p.
use mathlib.Core.Bool.{true}
use mathlib.Core.List.{List}
use mathlib.Core.Logic.{◌⊎◌, inl, inr, ◌≢◌, by_cases}
use mathlib.Core.Path.{◌≡◌, refl, ◌∙◌, sym, ap}
use Prim.Native.Nat.{ℕ, zero, suc, ◌+◌, ◌-◌, ◌*◌, ◌^◌, ◌%◌, ◌≤◌, ◌<◌}
use native.Mathlib.Decide.{ℕ_discrete}
use native.Mathlib.Nat.{mod-eq_of_lt, mod-lt, mul_assoc, mul-zero, not-suc-le-zero, zero-mod}
use native.Mathlib.Omega.{arith}
use lib.Pow.{pow-add}
use Rattle.field.proofs.Congruence.{mul_congr}
use Rattle.field.proofs.PowerOrder.{certificate, order_divides, pow_order, product}
use Rattle.field.proofs.Pigeonhole.{pigeonhole}
use Rattle.field.proofs.Power.{one-mul-mod}

-- no multiple of n lies between n and 2 n
between : (c n k : ℕ) → n < k → k < n + n → c * n ≢ k
between zero n k l h e = omega arith
between (suc zero) n k l h e = omega arith
between (suc (suc c)) n k l h e = omega arith

-- 0, a and the powers of g
abbrev candidates : ℕ → ℕ → ℕ → ℕ → ℕ
candidates p g a zero = 0
candidates p g a (suc zero) = a % p
candidates p g a (suc (suc i)) = g ^ i % p

module _ (p g : ℕ) (qs : List ℕ) (size : suc (product qs) ≡ p) (t : certificate p g qs ≡ true) where
  -- the inverse of a power
  inverse : (i : ℕ) → i < product qs → (g ^ (product qs - i) * g ^ i) % p ≡ 1 % p
  inverse i h =
      let whole : product qs - i + i ≡ product qs = omega arith in
      ap (λ (x : ℕ). x % p) (sym (pow-add g (product qs - i) i) ∙ ap (λ (n : ℕ). g ^ n) whole) ∙ pow_order p qs g t

  apart : (i j : ℕ) → i < j → j < product qs → g ^ i % p ≢ g ^ j % p
  apart i j l h e =
      let back : ℕ = product qs - i in
      let again : g ^ (back + j) % p ≡ 1 % p =
      ap (λ (x : ℕ). x % p) (pow-add g back j) ∙ mul_congr p (g ^ back) _ _ _ refl (sym e) ∙ inverse i (omega arith) in
      let (c, f) = order_divides p qs g (back + j) t again in
      between c (product qs) (back + j) (omega arith) (omega arith) f

  cancel : (i a b : ℕ) → i < product qs → a % p ≡ g ^ i % p → (a * b) % p ≡ 0 → b % p ≡ 0
  cancel i a b h e z =
      let back : ℕ = product qs - i in
      sym (one-mul-mod p _ b (inverse i h))
      ∙ ap (λ (x : ℕ). x % p) (mul_assoc (g ^ back) (g ^ i) b)
      ∙ mul_congr p (g ^ back) _ (g ^ i * b) 0 refl (mul_congr p _ _ b _ (sym e) refl ∙ z ∙ sym (zero-mod p))
      ∙ ap (λ (x : ℕ). x % p) (mul-zero (g ^ back))
      ∙ zero-mod p

  module _ (a b : ℕ) (z : (a * b) % p ≡ 0) (ha : a % p ≢ 0) (hb : b % p ≢ 0) where
    below : (i : ℕ) → i ≤ p → candidates p g a i < p
    below zero h = omega arith
    below (suc zero) h = mod-lt a (omega arith)
    below (suc (suc i)) h = mod-lt (g ^ i) (omega arith)

    differ : (i j : ℕ) → i < j → j ≤ p → candidates p g a i ≢ candidates p g a j
    differ i zero l h e = not-suc-le-zero l
    differ zero (suc zero) l h e = ha (sym e)
    differ (suc i) (suc zero) l h e = omega arith
    differ zero (suc (suc j)) l h e =
        let more : 1 < p = omega (arith, below 1 (omega arith)) in
        let none : 1 % p ≡ 0 = cancel j 0 1 (omega arith) (zero-mod p ∙ e) (zero-mod p) in
        omega (arith, mod-eq_of_lt more)
    differ (suc zero) (suc (suc j)) l h e = hb (cancel j a b (omega arith) e z)
    differ (suc (suc i)) (suc (suc j)) l h e = apart i j (omega arith) (omega arith) e

    impossible : ⊥
    impossible = pigeonhole p (candidates p g a) below differ

  pub lucas : (a b : ℕ) → (a * b) % p ≡ 0 → (a % p ≡ 0) ⊎ (b % p ≡ 0)
  lucas a b z =
      by_cases (ℕ_discrete (a % p) 0) inl
      (λ ha. by_cases (ℕ_discrete (b % p) 0) inr (λ hb. absurd (impossible a b z ha hb)))
