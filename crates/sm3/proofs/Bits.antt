-- The bits of what words are combined to. The operations on words work on each bit apart, so a bit of the result is known from
-- the operands' bits, of which there are few enough to try them all.
use Rattle.std.proofs.Common.{◌≡◌, ℕ, zero, suc, ◌+◌, ◌-◌, ◌*◌, ◌/◌, ◌%◌, ◌^◌, ◌<◌, min, max, sym, refl, ap, ◌∙◌, subst, mod-lt, add-mul, pow-suc, arith, pow_pos, pow-add, shr_lt}
use native.Mathlib.Nat.{zero-div}
use lib.Bits.{bit_and, bit_or, bit_xor, and_mod, and_shr, or_mod, or_shr, xor_mod, xor_shr}
use lib.Pow.{high, split}
use Rattle.sm3.specs.Sm3.{◌⊕◌, choice, majority}
use Rattle.sm3.specs.Words.{bit}

pub bit_lt : (i x : ℕ) → bit i x < 2
unfolding bit
bit_lt i x = omega arith

pub bit-zero : (i : ℕ) → bit i 0 ≡ 0
unfolding bit
bit-zero i = ap (λ (n : ℕ). n % 2) (zero-div (2 ^ (31 - i)))

-- an operation that works on each bit apart, and what it does to two bits
module _
    (op : ℕ → ℕ → ℕ)
    (f : ℕ → ℕ → ℕ)
    (op_shr : (a b k : ℕ) → op a b / 2 ^ k ≡ op (a / 2 ^ k) (b / 2 ^ k))
    (op-mod : (a b k : ℕ) → op a b % 2 ^ k ≡ op (a % 2 ^ k) (b % 2 ^ k))
    (at-00 : op 0 0 ≡ f 0 0)
    (at-01 : op 0 1 ≡ f 0 1)
    (at-10 : op 1 0 ≡ f 1 0)
    (at-11 : op 1 1 ≡ f 1 1) where
  on_bits : (p q : ℕ) → p < 2 → q < 2 → op p q ≡ f p q
  on_bits zero zero hp hq = at-00
  on_bits zero (suc zero) hp hq = at-01
  on_bits zero (suc (suc q)) hp hq = absurd (omega arith)
  on_bits (suc zero) zero hp hq = at-10
  on_bits (suc zero) (suc zero) hp hq = at-11
  on_bits (suc zero) (suc (suc q)) hp hq = absurd (omega arith)
  on_bits (suc (suc p)) q hp hq = absurd (omega arith)

  bit_op : (i x y : ℕ) → bit i (op x y) ≡ f (bit i x) (bit i y)
  unfolding bit
  bit_op i x y =
      ap (λ (n : ℕ). n % 2) (op_shr x y (31 - i)) ∙ op-mod (x / 2 ^ (31 - i)) (y / 2 ^ (31 - i)) 1
      ∙ on_bits (bit i x) (bit i y) (bit_lt i x) (bit_lt i y)

pub bit_xor_lem : (i x y : ℕ) → bit i (bit_xor x y) ≡ (bit i x + bit i y) % 2
bit_xor_lem = bit_op bit_xor (λ p q. (p + q) % 2) xor_shr xor_mod refl refl refl refl

pub bit_and_lem : (i x y : ℕ) → bit i (bit_and x y) ≡ min (bit i x) (bit i y)
bit_and_lem = bit_op bit_and min and_shr and_mod refl refl refl refl

pub bit_or_lem : (i x y : ℕ) → bit i (bit_or x y) ≡ max (bit i x) (bit i y)
bit_or_lem = bit_op bit_or max or_shr or_mod refl refl refl refl

pub bit_xor_3 : (i x y z : ℕ) → bit i (x ⊕ y ⊕ z) ≡ (bit i x + bit i y + bit i z) % 2
bit_xor_3 i x y z = omega (arith, bit_xor_lem i (x ⊕ y) z, bit_xor_lem i x y)

majority_of-bits : (p q r : ℕ) → p < 2 → q < 2 → r < 2 → max (max (min p q) (min p r)) (min q r) ≡ (p + q + r) / 2
majority_of-bits p q r hp hq hr = omega arith

pub bit-majority : (i x y z : ℕ) → bit i (majority x y z) ≡ (bit i x + bit i y + bit i z) / 2
unfolding majority
bit-majority i x y z =
    simp (bit_or_lem, bit_and_lem) (majority_of-bits (bit i x) (bit i y) (bit i z) (bit_lt i x) (bit_lt i y) (bit_lt i z))

-- a number of j + e bits, complemented, without its lowest e bits
not_shr : (x j e : ℕ) → x < 2 ^ (j + e) → (2 ^ (j + e) - 1 - x) / 2 ^ e ≡ 2 ^ j - 1 - x / 2 ^ e
not_shr x j e h =
    let q : ℕ = x / 2 ^ e in
    let d : ℕ = 2 ^ j - 1 - q in
    let below : x / 2 ^ e < 2 ^ j = shr_lt j e h in
    let sum : 2 ^ j ≡ d + (1 + q) = omega arith in
    let product : 2 ^ (j + e) ≡ d * 2 ^ e + (1 * 2 ^ e + q * 2 ^ e) =
    pow-add 2 j e ∙ ap (λ (n : ℕ). n * 2 ^ e) sum ∙ add-mul d (1 + q) (2 ^ e)
    ∙ ap (λ (n : ℕ). d * 2 ^ e + n) (add-mul 1 q (2 ^ e)) in
    let low : x % 2 ^ e < 2 ^ e = mod-lt x (pow_pos e) in
    let parts : 2 ^ (j + e) - 1 - x ≡ d * 2 ^ e + (2 ^ e - 1 - x % 2 ^ e) = omega (arith, split x e) in
    let rest : 2 ^ e - 1 - x % 2 ^ e < 2 ^ e = omega arith in
    ap (λ (n : ℕ). n / 2 ^ e) parts ∙ high d e rest

bit_not : (i x : ℕ) → x < 2 ^ 32 → bit i (2 ^ 32 - 1 - x) ≡ 1 - bit i x
unfolding bit
bit_not i x h =
    let e : ℕ = 31 - i in
    let j : ℕ = 31 - e in
    let whole : suc j + e ≡ 32 = omega arith in
    let below : x / 2 ^ e < 2 ^ suc j = shr_lt (suc j) e (subst (λ (n : ℕ). x < 2 ^ n) (sym whole) h) in
    let shifted : (2 ^ 32 - 1 - x) / 2 ^ e ≡ 2 ^ suc j - 1 - x / 2 ^ e =
    subst (λ (n : ℕ). x < 2 ^ n → (2 ^ n - 1 - x) / 2 ^ e ≡ 2 ^ suc j - 1 - x / 2 ^ e) whole (not_shr x (suc j) e) h in
    ap (λ (n : ℕ). n % 2) shifted ∙ omega (arith, pow-suc 2 j)

choice_of-bits : (p q r : ℕ) → p < 2 → q < 2 → r < 2 → max (min p q) (min (1 - p) r) ≡ p * q + (1 - p) * r
choice_of-bits zero q r hp hq hr = omega arith
choice_of-bits (suc zero) q r hp hq hr = omega arith
choice_of-bits (suc (suc p)) q r hp hq hr = absurd (omega arith)

pub bit-choice : (i x y z : ℕ) → x < 2 ^ 32 → bit i (choice x y z) ≡ bit i x * bit i y + (1 - bit i x) * bit i z
unfolding choice
bit-choice i x y z h =
    simp (bit_or_lem, bit_and_lem, bit_not i x h)
    (choice_of-bits (bit i x) (bit i y) (bit i z) (bit_lt i x) (bit_lt i y) (bit_lt i z))
