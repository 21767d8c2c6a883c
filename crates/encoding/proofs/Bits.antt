-- Numbers and the bits that write them. A number of m + n bits is the first m, moved up by n places, and the last n below
-- them. Divided by 2^n it gives the first m back, so each bit can be read off again, and the bits read off a number write it.
-- Eight bits from a byte's first on write that byte, so n bytes write a number to the base 256.
use mathlib.Core.List.{List}
use mathlib.Core.Path.{◌≡◌, refl, sym, ap, ap₂, ◌∙◌}
use Prim.Native.Nat.{ℕ, zero, suc, ◌+◌, ◌-◌, ◌*◌, ◌/◌, ◌%◌, ◌^◌, ◌<◌}
use native.Mathlib.Nat.{add-suc, add-zero, div-one, le_refl, mod-eq_of_lt, mod-one, mul_assoc, mul-one, one-mul, pow-suc, zero-div}
use native.Mathlib.Numerals.{add-one}
use native.Mathlib.Omega.{arith}
use lib.Arith.{digits_lt, digits_mod}
use lib.Dec.{lit<}
use lib.ListN.{get_or}
use lib.Pow.{high, mod-pow-add, shl_exact, shr-shr}
use Rattle.encoding.specs.Bits.{bit_of_bytes, number}

-- n bits write a number below 2^n
pub number_lt : (n : ℕ) (b : ℕ → ℕ) → ((i : ℕ) → i < n → b i < 2) → number n b < 2 ^ n
unfolding number
number_lt zero b h = lit< tt
number_lt (suc n) b h = rw pow-suc (digits_lt (number_lt n b (λ i l. h i (omega arith))) (h n (le_refl (suc n))))

-- only the first n bits count
pub number_cong : (n : ℕ) (b c : ℕ → ℕ) → ((i : ℕ) → i < n → b i ≡ c i) → number n b ≡ number n c
unfolding number
number_cong zero b c h = refl
number_cong (suc n) b c h = ap₂ (λ (x y : ℕ). x * 2 + y) (number_cong n b c (λ i l. h i (omega arith))) (h n (le_refl (suc n)))

-- the first m bits, then the n after them
pub number_split : (m n : ℕ) (b : ℕ → ℕ) → number (m + n) b ≡ number m b * 2 ^ n + number n (λ i. b (m + i))
unfolding number
number_split m zero b = rw (add-zero m) (sym (add-zero (number m b * 1) ∙ mul-one (number m b)))
number_split m (suc n) b =
    let moved : number m b * 2 ^ suc n ≡ number m b * 2 ^ n * 2 =
    ap (λ (x : ℕ). number m b * x) (pow-suc 2 n) ∙ sym (mul_assoc (number m b) (2 ^ n) 2) in
    ap (λ (k : ℕ). number k b) (add-suc m n) ∙ omega (arith, number_split m n b)

-- the n lowest bits of a number write what is left of it modulo 2^n
pub number_of-bits : (n x : ℕ) → number n (λ i. x / 2 ^ (n - 1 - i) % 2) ≡ x % 2 ^ n
unfolding number
number_of-bits zero x = sym (mod-one x)
number_of-bits (suc n) x =
    let above : (i : ℕ) → i < n → x / 2 ^ (suc n - 1 - i) % 2 ≡ x / 2 / 2 ^ (n - 1 - i) % 2 =
    λ i l.
    let e : suc n - 1 - i ≡ 1 + (n - 1 - i) = omega arith in
    ap (λ (k : ℕ). x / 2 ^ k % 2) e ∙ ap (λ (y : ℕ). y % 2) (sym (shr-shr x 1 (n - 1 - i))) in
    let last : suc n - 1 - n ≡ 0 = omega arith in
    ap₂ (λ (y k : ℕ). y * 2 + x / 2 ^ k % 2) (number_cong n _ _ above ∙ number_of-bits n (x / 2)) last
    ∙ ap (λ (y : ℕ). x / 2 % 2 ^ n * 2 + y % 2) (div-one x) ∙ sym (mod-pow-add x n 1)
    ∙ ap (λ (k : ℕ). x % 2 ^ k) (add-one n)

-- bit i of the number that n bits write is the i-th of them
pub bit_of-number : (n : ℕ) (b : ℕ → ℕ) (i : ℕ) → ((j : ℕ) → j < n → b j < 2) → i < n → number n b / 2 ^ (n - 1 - i) % 2 ≡ b i
unfolding number
bit_of-number n b i h l =
    let rest : ℕ = n - 1 - i in
    let e : n ≡ suc i + rest = omega arith in
    let below : number rest (λ j. b (suc i + j)) < 2 ^ rest = number_lt rest _ (λ j m. h (suc i + j) (omega arith)) in
    ap (λ (y : ℕ). y / 2 ^ rest % 2)
    (ap (λ (k : ℕ). number k b) e ∙ number_split (suc i) rest b)
    ∙ ap (λ (y : ℕ). y % 2) (high (number (suc i) b) rest below)
    ∙ digits_mod (number i b) (h i l)

-- a number is 0 where all its bits are, and only there
pub number-zero : (n : ℕ) (b : ℕ → ℕ) → ((i : ℕ) → i < n → b i ≡ 0) → number n b ≡ 0
unfolding number
number-zero zero b h = refl
number-zero (suc n) b h = omega (arith, number-zero n b (λ i l. h i (omega arith)), h n (omega arith))

pub zero_bits : (n : ℕ) (b : ℕ → ℕ) → ((i : ℕ) → i < n → b i < 2) → number n b ≡ 0 → (i : ℕ) → i < n → b i ≡ 0
zero_bits n b bits e i l =
    sym (bit_of-number n b i bits l) ∙ ap (λ x. x / 2 ^ (n - 1 - i) % 2) e
    ∙ ap (λ x. x % 2) (zero-div (2 ^ (n - 1 - i)))

-- the bit 1, shifted to a low place of 64 bits
pub one_shifted : (k : ℕ) → k < 64 → 1 * 2 ^ k % 2 ^ 64 ≡ 2 ^ k
one_shifted k l = shl_exact {a = 1} 1 k 64 (lit< tt) (omega arith) ∙ one-mul (2 ^ k)

-- Bytes.

pub bit_of_bytes_lt : (bytes : List ℕ) (k : ℕ) → bit_of_bytes bytes k < 2
unfolding bit_of_bytes
bit_of_bytes_lt bytes k = omega arith

-- bit i of byte k
pub bit_of-byte : (bytes : List ℕ) (k i : ℕ) → i < 8 → bit_of_bytes bytes (8 * k + i) ≡ get_or bytes k 0 / 2 ^ (7 - i) % 2
unfolding bit_of_bytes
bit_of-byte bytes k i h =
    let byte : (8 * k + i) / 8 ≡ k = omega arith in
    let place : (8 * k + i) % 8 ≡ i = omega arith in
    ap₂ (λ (n m : ℕ). get_or bytes n 0 / 2 ^ (7 - m) % 2) byte place

pub number_of-byte : (bytes : List ℕ) (k : ℕ) → get_or bytes k 0 < 256 → number 8 (λ i. bit_of_bytes bytes (8 * k + i)) ≡ get_or bytes k 0
number_of-byte bytes k h = number_cong 8 _ _ (bit_of-byte bytes k) ∙ number_of-bits 8 (get_or bytes k 0) ∙ mod-eq_of_lt h

-- one more byte
pub number_of_bytes : (bytes : List ℕ) (at n : ℕ) → get_or bytes (at + n) 0 < 256
    → number (8 * n + 8) (λ i. bit_of_bytes bytes (8 * at + i)) ≡ number (8 * n) (λ i. bit_of_bytes bytes (8 * at + i)) * 256 + get_or bytes (at + n) 0
number_of_bytes bytes at n h =
    let place : (i : ℕ) → 8 * at + (8 * n + i) ≡ 8 * (at + n) + i = λ i. omega arith in
    number_split (8 * n) 8 (λ i. bit_of_bytes bytes (8 * at + i))
    ∙ ap (λ (m : ℕ). number (8 * n) (λ i. bit_of_bytes bytes (8 * at + i)) * 256 + m)
    (number_cong 8 _ _ (λ i l. ap (bit_of_bytes bytes) (place i)) ∙ number_of-byte bytes (at + n) h)
