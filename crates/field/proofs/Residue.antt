-- What a sum or a product of whole numbers is modulo p depends only on what its parts are. A sum is taken by the signs, and each case
-- is a fact of remainders. In a product a factor -(y + 1) is p - 1 - y: times x they differ by a multiple of p.
use mathlib.Core.Bool.{Bool, cond, false, true}
use mathlib.Core.Path.{◌≡◌, ◌∙◌, ap, refl, sym}
use Prim.Native.Nat.{ℕ, zero, suc, ◌+◌, ◌-◌, ◌*◌, ◌/◌, ◌%◌, ◌<◌, ◌≤◌}
use native.Mathlib.Nat.{mul_comm, mul-mod_right}
use native.Mathlib.Omega.{arith}
use borrow.Author.Tests.{ltb-false, ltb-true}
use lib.Dec.{ltb}
use lib.IntN.{ℤ, ◌*ℤ◌, ◌+ℤ◌, negsuc, neg_ℤ, pos, sub_ℕ}
use Rattle.field.proofs.Congruence.{mod-mul-mod, mul-mod}
use Rattle.field.specs.Field.{p, residue}

-- a - b, and -n

pub residue_difference : (a b : ℕ) → residue (sub_ℕ a b) ≡ (a + (p - b % p)) % p
unfolding residue
residue_difference a b = by_test (ltb a b) refl
  where
    by_test : (t : Bool) → ltb a b ≡ t → residue (cond t (negsuc (b - suc a)) (pos (a - b))) ≡ (a + (p - b % p)) % p
    by_test true e = let l : a < b = ltb-true a b e in omega arith
    by_test false e = let l : b ≤ a = ltb-false a b e in omega arith

residue_minus : (n : ℕ) → residue (neg_ℤ (pos n)) ≡ (p - n % p) % p
unfolding residue
residue_minus zero = refl
residue_minus (suc n) = omega arith

pub residue-sum : (x y : ℤ) → residue (x +ℤ y) ≡ (residue x + residue y) % p
unfolding residue
residue-sum (pos a) (pos b) = omega arith
residue-sum (pos a) (negsuc b) = residue_difference a (suc b) ∙ omega arith
residue-sum (negsuc a) (pos b) = residue_difference b (suc a) ∙ omega arith
residue-sum (negsuc a) (negsuc b) = omega arith

-- x times what -(y + 1) is modulo p
times_minus : (x y : ℕ) → (x * (p - 1 - y % p)) % p ≡ (p - (x * suc y) % p) % p
times_minus x y =
    let whole : (p - 1 - y % p) + suc y ≡ p * (1 + y / p) = omega arith in
    let parts : x * (p - 1 - y % p) + x * suc y ≡ p * (x * (1 + y / p)) = omega (arith, ap (λ (n : ℕ). x * n) whole) in
    let none : (x * (p - 1 - y % p) + x * suc y) % p ≡ 0 = ap (λ (n : ℕ). n % p) parts ∙ mul-mod_right p (x * (1 + y / p)) in
    omega arith

pub residue-product : (x y : ℤ) → residue (x *ℤ y) ≡ (residue x * residue y) % p
unfolding residue
residue-product (pos a) (pos b) = mul-mod a b p
residue-product (pos a) (negsuc b) =
    residue_minus (a * suc b) ∙ sym (times_minus (a % p) b ∙ ap (λ (n : ℕ). (p - n) % p) (mod-mul-mod a (suc b) p))
residue-product (negsuc a) (pos b) =
    residue_minus (suc a * b)
    ∙ sym
    (ap (λ (n : ℕ). n % p) (mul_comm (p - 1 - a % p) (b % p))
    ∙ times_minus (b % p) a
    ∙ ap (λ (n : ℕ). (p - n) % p) (mod-mul-mod b (suc a) p ∙ ap (λ (n : ℕ). n % p) (mul_comm b (suc a))))
residue-product (negsuc a) (negsuc b) =
    let first : (suc b * (p - 1 - a % p)) % p ≡ (p - (suc b * suc a) % p) % p = times_minus (suc b) a in
    let second : ((p - 1 - a % p) * (p - 1 - b % p)) % p ≡ (p - ((p - 1 - a % p) * suc b) % p) % p = times_minus (p - 1 - a % p) b in
    let turned : ((p - 1 - a % p) * suc b) % p ≡ (suc b * (p - 1 - a % p)) % p = ap (λ (n : ℕ). n % p) (mul_comm (p - 1 - a % p) (suc b)) in
    let same : (suc a * suc b) % p ≡ (suc b * suc a) % p = ap (λ (n : ℕ). n % p) (mul_comm (suc a) (suc b)) in
    omega arith
