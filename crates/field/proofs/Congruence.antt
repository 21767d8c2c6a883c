-- What a sum, a product or a power leaves modulo m depends only on what its parts leave: a number differs from its residue by
-- a multiple of m, and so does all that is made of it.
use mathlib.Core.Path.{◌≡◌, ◌∙◌, sym, ap, ap₂}
use Prim.Native.Nat.{ℕ, zero, suc, ◌+◌, ◌*◌, ◌^◌, ◌/◌, ◌%◌}
use native.Mathlib.Nat.{add-mod, div-add-mod, mul-add-mod_self_left, mul_comm, pow-suc, pow-zero}
use native.Mathlib.Omega.{arith}

pub mul-mod-mod : (a b m : ℕ) → (a * (b % m)) % m ≡ (a * b) % m
mul-mod-mod a b m =
    let parts : m * (a * (b / m)) + a * (b % m) ≡ a * b = omega (arith, ap (λ (n : ℕ). a * n) (div-add-mod b m)) in
    sym (mul-add-mod_self_left m (a * (b / m)) (a * (b % m))) ∙ ap (λ (n : ℕ). n % m) parts

pub mod-mul-mod : (a b m : ℕ) → (a % m * b) % m ≡ (a * b) % m
mod-mul-mod a b m = rw (mul_comm (a % m) b, mul_comm a b) (mul-mod-mod b a m)

pub mul-mod : (a b m : ℕ) → (a * b) % m ≡ (a % m * (b % m)) % m
mul-mod a b m = sym (mod-mul-mod a (b % m) m ∙ mul-mod-mod a b m)

module _ (m a a' b b' : ℕ) (left : a % m ≡ a' % m) (right : b % m ≡ b' % m) where
  add_congr : (a + b) % m ≡ (a' + b') % m
  add_congr = add-mod a b m ∙ ap₂ (λ (x y : ℕ). (x + y) % m) left right ∙ sym (add-mod a' b' m)

  pub mul_congr : (a * b) % m ≡ (a' * b') % m
  mul_congr = mul-mod a b m ∙ ap₂ (λ (x y : ℕ). (x * y) % m) left right ∙ sym (mul-mod a' b' m)

pub pow_congr : (m a b n : ℕ) → a % m ≡ b % m → (a ^ n) % m ≡ (b ^ n) % m
pow_congr m a b zero h = rw (pow-zero a, pow-zero b)
pow_congr m a b (suc n) h = rw (pow-suc a n, pow-suc b n) (mul_congr m (a ^ n) (b ^ n) a b (pow_congr m a b n h) h)
