-- The laws of the decimal writing: a number below 10 is its digit, and any other is the writing of its tenth with one
-- digit more. The bound in the definition does not matter, because a tenth of x is less than x.
use mathlib.Core.Bool.{and-eq-true_iff, cond, true}
use mathlib.Core.List.{List, [], ◌∷◌, ◌++◌}
use mathlib.Core.Path.{◌≡◌, ap, ap₂, ◌∙◌}
use Prim.Native.Nat.{ℕ, zero, suc, ◌+◌, ◌*◌, ◌/◌, ◌%◌, ◌^◌, ◌≤◌, ◌<◌}
use native.Mathlib.Decide.{dec_lt}
use native.Mathlib.Nat.{not-suc-le-zero, pow-suc}
use native.Mathlib.Omega.{arith}
use borrow.Author.Tests.{le-leb, le-ltb, leb-true, lt-ltb}
use lib.Dec.{leb, ltb}
use lib.ListN.{length, length-append}
use Rattle.text.specs.Decimal.{decimal, digit, digits, is_digit}

-- which bytes are digits
pub digit_bounds : (c : ℕ) → is_digit c ≡ true → (48 ≤ c) × (c ≤ 57)
unfolding is_digit
digit_bounds c e =
    let bounds = (and-eq-true_iff (leb 48 c) (leb c 57)).0 e in
    (leb-true 48 c bounds.0, leb-true c 57 bounds.1)

pub is_digit_lem : (c : ℕ) → 48 ≤ c → c ≤ 57 → is_digit c ≡ true
unfolding is_digit
is_digit_lem c low high = simp (le-leb 48 c low, le-leb c 57 high)

-- a digit more than are needed changes nothing
digits_enough : (j k x : ℕ) → x < j → x < k → digits j x ≡ digits k x
digits_enough zero k x below-j below-k = absurd (not-suc-le-zero below-j)
digits_enough (suc j) zero x below-j below-k = absurd (not-suc-le-zero below-k)
digits_enough (suc j) (suc k) x below-j below-k =
    by (dec_lt x 10) (λ tenth-below-j tenth-below-k. digits_enough j k (x / 10) tenth-below-j tenth-below-k)
  where
    by : Dec (x < 10) → (x / 10 < j → x / 10 < k → digits j (x / 10) ≡ digits k (x / 10)) → digits (suc j) x ≡ digits (suc k) x
    by (yes low) more = unfold digits in simp (lt-ltb x 10 low)
    by (no high) more =
        unfold digits in
        ap (λ (h : List ℕ). cond (ltb x 10) (digit x ∷ []) (h ++ (digit (x % 10) ∷ [])))
        (more (omega arith) (omega arith))

pub decimal_low : (x : ℕ) → x < 10 → decimal x ≡ digit x ∷ []
unfolding decimal digits
decimal_low x low = simp (lt-ltb x 10 low)

pub decimal_high : (x : ℕ) → 10 ≤ x → decimal x ≡ decimal (x / 10) ++ (digit (x % 10) ∷ [])
unfolding decimal digits
decimal_high x high =
    simp (le-ltb x 10 high)
    (ap (λ (h : List ℕ). h ++ (digit (x % 10) ∷ []))
    (digits_enough x (suc (x / 10)) (x / 10) (omega arith) (omega arith)))

-- .. the other way round: the writing of v with the digit d after it
pub decimal-more : (v d : ℕ) → 0 < v → d < 10 → decimal (10 * v + d) ≡ decimal v ++ (digit d ∷ [])
decimal-more v d some low =
    let tenth : (10 * v + d) / 10 ≡ v = omega arith in
    let last : (10 * v + d) % 10 ≡ d = omega arith in
    decimal_high (10 * v + d) (omega arith) ∙ ap₂ (λ (t e : ℕ). decimal t ++ (digit e ∷ [])) tenth last

-- what holds of the digits, and of each number of which it holds of the tenth, holds of all
pub by_tenths :
    (P : ℕ → Type 0)
    → ((x : ℕ) → x < 10 → P x)
    → ((x : ℕ) → 10 ≤ x → P (x / 10) → P x)
    → (x : ℕ)
    → P x
by_tenths P low high x = below (suc x) x (omega arith)
  where
    below : (k y : ℕ) → y < k → P y
    below zero y h = absurd (not-suc-le-zero h)
    below (suc k) y h = by (dec_lt y 10) (below k (y / 10))
      where
        by : Dec (y < 10) → (y / 10 < k → P (y / 10)) → P y
        by (yes l) more = low y l
        by (no l) more = high y (omega arith) (more (omega arith))

-- a number below 10 ^ (k + 1) has at most k + 1 digits
pub length-decimal : (k x : ℕ) → x < 10 ^ suc k → length (decimal x) ≤ suc k
length-decimal zero x below = rw (decimal_low x below) (omega arith)
length-decimal (suc k) x below = by (dec_lt x 10) (length-decimal k (x / 10))
  where
    by : Dec (x < 10) → (x / 10 < 10 ^ suc k → length (decimal (x / 10)) ≤ suc k) → length (decimal x) ≤ suc (suc k)
    by (yes low) more = rw (decimal_low x low) (omega arith)
    by (no high) more =
        let ten_times : 10 ^ suc (suc k) ≡ 10 ^ suc k * 10 = pow-suc 10 (suc k) in
        let shorter : length (decimal (x / 10)) ≤ suc k = more (omega arith) in
        rw (decimal_high x (omega arith), length-append) (omega arith)

-- .. and at least one
pub decimal_some : (x : ℕ) → 0 < length (decimal x)
decimal_some =
    by_tenths (λ x. 0 < length (decimal x))
    (λ x low. rw (decimal_low x low) (omega arith))
    (λ x high some. rw (decimal_high x high, length-append) (omega arith))

-- a number of 64 bits has at most 20
pub length-decimal_64 : (x : ℕ) → x < 2 ^ 64 → length (decimal x) ≤ 20
length-decimal_64 x below = length-decimal 19 x (omega arith)
