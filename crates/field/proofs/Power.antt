-- Laws of powers, and powers modulo m by repeated squaring: b ^ e is b ^ 2 to the power e / 2, times b where e is odd.
use mathlib.Core.Path.{◌≡◌, refl, ◌∙◌, sym, ap}
use Prim.Native.Nat.{ℕ, zero, suc, ◌*◌, ◌^◌, ◌/◌, ◌%◌}
use native.Mathlib.Nat.{div-add-mod, mod-mod, mul-one, mul-suc, mul-zero, one-mul, pow-suc, pow-zero}
use lib.Pow.{pow-add}
use Rattle.field.proofs.Congruence.{mul_congr, pow_congr}

pub pow-one : (a : ℕ) → a ^ 1 ≡ a
pow-one a = pow-suc a 0 ∙ ap (λ (n : ℕ). n * a) (pow-zero a) ∙ one-mul a

one-pow : (n : ℕ) → 1 ^ n ≡ 1
one-pow zero = refl
one-pow (suc n) = pow-suc 1 n ∙ mul-one (1 ^ n) ∙ one-pow n

pub pow-mul : (a i j : ℕ) → a ^ (i * j) ≡ (a ^ i) ^ j
pow-mul a i zero = simp (mul-zero, pow-zero)
pow-mul a i (suc j) = simp (mul-suc, pow-add, pow-suc, pow-mul a i j)

module _ (m : ℕ) where
  pub one-mul-mod : (x y : ℕ) → x % m ≡ 1 % m → (x * y) % m ≡ y % m
  one-mul-mod x y e = mul_congr m x 1 y y e refl ∙ ap (λ (z : ℕ). z % m) (one-mul y)

  pub one-pow-mod : (x n : ℕ) → x % m ≡ 1 % m → x ^ n % m ≡ 1 % m
  one-pow-mod x n e = pow_congr m x 1 n e ∙ ap (λ (z : ℕ). z % m) (one-pow n)

  pub pow-pow-mod : (x i j : ℕ) → (x ^ i % m) ^ j % m ≡ x ^ (i * j) % m
  pow-pow-mod x i j = pow_congr m (x ^ i % m) (x ^ i) j (mod-mod (x ^ i) m) ∙ ap (λ (z : ℕ). z % m) (sym (pow-mul x i j))

-- b ^ e modulo m, by the lowest n binary digits of e; what is above them is left to `◌^◌`
unfoldable pub power : ℕ → ℕ → ℕ → ℕ → ℕ
power m zero b e = b ^ e % m
power m (suc n) b e = power m n (b ^ 2 % m) (e / 2) * b ^ (e % 2) % m

pub power_is : (m n b e : ℕ) → power m n b e ≡ b ^ e % m
unfolding power
power_is m zero b e = refl
power_is m (suc n) b e =
    let halves : b ^ (2 * (e / 2)) * b ^ (e % 2) ≡ b ^ e =
    sym (pow-add b (2 * (e / 2)) (e % 2)) ∙ ap (λ (n : ℕ). b ^ n) (div-add-mod e 2) in
    mul_congr m _ (b ^ (2 * (e / 2))) (b ^ (e % 2)) _
    (ap (λ (x : ℕ). x % m) (power_is m n (b ^ 2 % m) (e / 2) ∙ pow-pow-mod m b 2 (e / 2)) ∙ mod-mod (b ^ (2 * (e / 2))) m)
    refl
    ∙ ap (λ (x : ℕ). x % m) halves
