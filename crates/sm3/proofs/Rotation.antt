-- A rotated word. Its lowest 32 - k bits, moved up by k places, and its highest k bits below them are the word rotated by k. So
-- it is a word, and bit i of it is bit i + k of the word that was rotated, counted round. By its bits, a rotation goes into an xor, and
-- two rotations are one.
use mathlib.Core.Logic.{by_cases}
use Rattle.std.proofs.Common.{◌≡◌, ℕ, suc, ◌+◌, ◌-◌, ◌*◌, ◌/◌, ◌%◌, ◌^◌, ◌<◌, ◌≤◌, sym, ap, ◌∙◌, subst, ap₂, subst₂, add-zero, mod-lt, mul_assoc, arith, pow_pos, pow-add, shr-shr, shr_lt}
use native.Mathlib.Decide.{dec_lt}
use native.Mathlib.Nat.{mul-add-div_right, mul-mod_left}
use lib.Arith.{digits_lt}
use lib.Bits.{bit_or, block_odd, or_shifted, xor_lt}
use lib.Pow.{high, mod-pow-add, shl-shr, split}
use Rattle.sm3.specs.Sm3.{◌⊕◌}
use Rattle.sm3.specs.Words.{bit, rotate_left}
use Rattle.sm3.proofs.Bits.{bit_xor_lem}
use Rattle.sm3.proofs.WordBits.{word_ext}

-- what is left of a number moved up by k places, in j + k bits
shl_mod : (x j k : ℕ) → x * 2 ^ k % 2 ^ (j + k) ≡ x % 2 ^ j * 2 ^ k
shl_mod x j k =
    mod-pow-add (x * 2 ^ k) j k
    ∙ ap₂ (λ (a b : ℕ). a % 2 ^ j * 2 ^ k + b) (shl-shr x k) (mul-mod_left x (2 ^ k))
    ∙ add-zero (x % 2 ^ j * 2 ^ k)

pub shl_word : (k x : ℕ) → k ≤ 32 → x * 2 ^ k % 2 ^ 32 ≡ x % 2 ^ (32 - k) * 2 ^ k
shl_word k x h =
    let whole : 32 ≡ 32 - k + k = omega arith in
    ap (λ (n : ℕ). x * 2 ^ k % 2 ^ n) whole ∙ shl_mod x (32 - k) k

-- the highest k bits of a word
pub shr_word : (k x : ℕ) → k ≤ 32 → x < 2 ^ 32 → x / 2 ^ (32 - k) < 2 ^ k
shr_word k x h l =
    let whole : 32 ≡ k + (32 - k) = omega arith in
    shr_lt k (32 - k) (subst (λ (n : ℕ). x < 2 ^ n) whole l)

rotate_parts : (k x : ℕ) → k ≤ 32 → rotate_left k x ≡ x % 2 ^ (32 - k) * 2 ^ k + x / 2 ^ (32 - k)
unfolding rotate_left
rotate_parts k x h = ap (λ (n : ℕ). n + x / 2 ^ (32 - k)) (shl_word k x h)

pub rotate_lt : (k x : ℕ) → k ≤ 32 → x < 2 ^ 32 → rotate_left k x < 2 ^ 32
rotate_lt k x h l =
    let whole : 32 - k + k ≡ 32 = omega arith in
    subst₂ ◌<◌ (sym (rotate_parts k x h)) (sym (pow-add 2 (32 - k) k) ∙ ap (λ (n : ℕ). 2 ^ n) whole)
    (digits_lt (mod-lt x (pow_pos (32 - k))) (shr_word k x h l))

-- what the library's rotation makes, by `|`: x moved up by k places has nothing below place k, and x moved down by 32 - k has nothing
-- from there on
pub turned : (x k : ℕ) → 0 < k → k < 32 → x < 2 ^ 32
    → bit_or (x * 2 ^ (k % 32) % 2 ^ 32) (x / 2 ^ ((32 - k % 32) % 32)) ≡ rotate_left k x
unfolding rotate_left
turned x k pos h l =
    let up : k % 32 ≡ k = omega arith in
    let down : (32 - k % 32) % 32 ≡ 32 - k = omega arith in
    ap₂ (λ (m n : ℕ). bit_or (x * 2 ^ m % 2 ^ 32) (x / 2 ^ n)) up down
    ∙ rw (shl_word k x (omega arith)) (or_shifted (x % 2 ^ (32 - k)) k (x / 2 ^ (32 - k)) (shr_word k x (omega arith) l))

-- a bit of the higher and of the lower part of a number
bit_high : (a k m : ℕ) {b : ℕ} → b < 2 ^ k → (a * 2 ^ k + b) / 2 ^ (k + m) % 2 ≡ a / 2 ^ m % 2
bit_high a k m h = ap (λ (n : ℕ). n % 2) (sym (shr-shr (a * 2 ^ k + _) k m) ∙ ap (λ (n : ℕ). n / 2 ^ m) (high a k h))

bit_low : (a b e r : ℕ) → (a * 2 ^ (suc r + e) + b) / 2 ^ e % 2 ≡ b / 2 ^ e % 2
bit_low a b e r =
    let moved : a * 2 ^ (suc r + e) ≡ a * 2 ^ suc r * 2 ^ e =
    ap (λ (n : ℕ). a * n) (pow-add 2 (suc r) e) ∙ sym (mul_assoc a (2 ^ suc r) (2 ^ e)) in
    ap (λ (n : ℕ). (n + b) / 2 ^ e % 2) moved
    ∙ ap (λ (n : ℕ). n % 2) (mul-add-div_right (pow_pos e) (a * 2 ^ suc r) b)
    ∙ block_odd a r (b / 2 ^ e)

bit-mod : (x e r : ℕ) → x % 2 ^ (suc r + e) / 2 ^ e % 2 ≡ x / 2 ^ e % 2
bit-mod x e r =
    sym (bit_low (x / 2 ^ (suc r + e)) (x % 2 ^ (suc r + e)) e r) ∙ ap (λ (n : ℕ). n / 2 ^ e % 2) (split x (suc r + e))

pub bit_rotate : (k i x : ℕ) → k ≤ 32 → i < 32 → x < 2 ^ 32 → bit i (rotate_left k x) ≡ bit ((i + k) % 32) x
unfolding bit
bit_rotate k i x hk hi hx =
    rw (rotate_parts k x hk)
    (by_cases (dec_lt (i + k) 32)
    (λ l.
    let m : ℕ = 31 - i - k in
    let place : 31 - i ≡ k + m = omega arith in
    let back : 31 - (i + k) % 32 ≡ m = omega arith in
    let rest : 32 - k ≡ suc i + m = omega arith in
    ap (λ (n : ℕ). (x % 2 ^ (32 - k) * 2 ^ k + x / 2 ^ (32 - k)) / 2 ^ n % 2) place
    ∙ bit_high (x % 2 ^ (32 - k)) k m (shr_word k x hk hx)
    ∙ ap (λ (n : ℕ). x % 2 ^ n / 2 ^ m % 2) rest ∙ bit-mod x m i
    ∙ ap (λ (n : ℕ). x / 2 ^ n % 2) (sym back))
    (λ g.
    let place : k ≡ suc (i + k - 32) + (31 - i) = omega arith in
    let back : 31 - (i + k) % 32 ≡ 32 - k + (31 - i) = omega arith in
    ap (λ (n : ℕ). (x % 2 ^ (32 - k) * 2 ^ n + x / 2 ^ (32 - k)) / 2 ^ (31 - i) % 2) place
    ∙ bit_low (x % 2 ^ (32 - k)) (x / 2 ^ (32 - k)) (31 - i) (i + k - 32)
    ∙ ap (λ (n : ℕ). n % 2) (shr-shr x (32 - k) (31 - i))
    ∙ ap (λ (n : ℕ). x / 2 ^ n % 2) (sym back)))

pub rotate_xor : (k x y : ℕ) → k ≤ 32 → x < 2 ^ 32 → y < 2 ^ 32 → rotate_left k (x ⊕ y) ≡ rotate_left k x ⊕ rotate_left k y
rotate_xor k x y h hx hy =
    let both : x ⊕ y < 2 ^ 32 = xor_lt 32 x y hx hy in
    word_ext _ _ (rotate_lt k (x ⊕ y) h both) (xor_lt 32 _ _ (rotate_lt k x h hx) (rotate_lt k y h hy))
    (λ i l.
    bit_rotate k i (x ⊕ y) h l both ∙ bit_xor_lem ((i + k) % 32) x y
    ∙ sym
    (bit_xor_lem i (rotate_left k x) (rotate_left k y)
    ∙ ap₂ (λ (p q : ℕ). (p + q) % 2) (bit_rotate k i x h l hx) (bit_rotate k i y h l hy)))

pub rotate_rotate : (k m x : ℕ) → k + m ≤ 32 → x < 2 ^ 32 → rotate_left k (rotate_left m x) ≡ rotate_left (k + m) x
rotate_rotate k m x h hx =
    let once : rotate_left m x < 2 ^ 32 = rotate_lt m x (omega arith) hx in
    word_ext _ _ (rotate_lt k (rotate_left m x) (omega arith) once) (rotate_lt (k + m) x h hx)
    (λ i l.
    let place : ((i + k) % 32 + m) % 32 ≡ (i + (k + m)) % 32 = omega arith in
    bit_rotate k i (rotate_left m x) (omega arith) l once ∙ bit_rotate m ((i + k) % 32) x (omega arith) (omega arith) hx
    ∙ ap (λ (n : ℕ). bit n x) place ∙ sym (bit_rotate (k + m) i x h l hx))
