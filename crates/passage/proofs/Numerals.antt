-- A number in n digits. Where it is below 10 ^ n it is its tenth in n - 1 digits with its last digit behind, so reading and writing undo
-- each other digit by digit. Where it is not, what is left over for the first place is no digit.
use mathlib.Core.Bool.{false, true}
use mathlib.Core.List.{List, [], ◌∷◌, ◌++◌}
use mathlib.Core.Logic.{by_cases}
use mathlib.Core.Path.{◌≡◌, ◌∙◌, ap, ap₂, refl, subst}
use Prim.Native.Nat.{ℕ, zero, suc, ◌+◌, ◌-◌, ◌*◌, ◌/◌, ◌%◌, ◌^◌, ◌<◌, ◌≤◌}
use native.Mathlib.Decide.{dec_lt}
use native.Mathlib.Nat.{pow-suc, zero-add}
use native.Mathlib.Omega.{arith}
use borrow.Author.Tests.{le-leb, lt-leb}
use lib.ListN.{get_or-append, get_or, length, length-append}
use lib.Seq.{get_or_at}
use Rattle.passage.specs.Format.{number_from}
use Rattle.passage.specs.Runs.{Digits}
use Rattle.passage.specs.Write.{numeral}
use Rattle.text.proofs.Digits.{digit_bounds, is_digit_lem}
use Rattle.text.specs.Decimal.{digit, is_digit}

pub length-numeral : (n x : ℕ) → length (numeral n x) ≡ n
unfolding numeral
length-numeral zero x = refl
length-numeral (suc zero) x = refl
length-numeral (suc (suc n)) x =
    omega (arith, length-append (numeral (suc n) (x / 10)) (digit (x % 10) ∷ []), length-numeral (suc n) (x / 10))

-- the last digit
pub numeral_last : (n x : ℕ) → x < 10 ^ suc n → numeral (suc n) x ≡ numeral n (x / 10) ++ (digit (x % 10) ∷ [])
unfolding numeral
numeral_last zero x below =
    let last : x ≡ x % 10 = omega (arith, pow-suc 10 0) in
    ap (λ d. digit d ∷ []) last
numeral_last (suc n) x below = refl

-- a tenth has a digit less
pub tenth_below : (n x : ℕ) → x < 10 ^ suc n → x / 10 < 10 ^ n
tenth_below n x below = omega (arith, pow-suc 10 n)

-- What stands at the places of a number.
module _ (n x : ℕ) (d : ℕ) where
  abbrev More : List ℕ
  More = numeral n x ++ (d ∷ [])

  before_last : (i : ℕ) → i < n → get_or More i 0 ≡ get_or (numeral n x) i 0
  before_last i l = get_or-append (numeral n x) (d ∷ []) 0 i (omega (arith, length-numeral n x))

  at_last : get_or More n 0 ≡ d
  at_last = get_or_at (numeral n x) d [] 0 n (length-numeral n x)

remainder_digit : (x : ℕ) → is_digit (digit (x % 10)) ≡ true
remainder_digit x = is_digit_lem (digit (x % 10)) (omega arith) (omega arith)

-- behind the first place stand digits
pub digits_behind : (n x i : ℕ) → 0 < i → i < n → is_digit (get_or (numeral n x) i 0) ≡ true
unfolding numeral
digits_behind zero x i some l = absurd (omega arith)
digits_behind (suc zero) x i some l = absurd (omega arith)
digits_behind (suc (suc n)) x i some l =
    by_cases (dec_lt i (suc n))
    (λ before. ap is_digit (before_last (suc n) (x / 10) (digit (x % 10)) i before) ∙ digits_behind (suc n) (x / 10) i some before)
    (λ last.
    let same : suc n ≡ i = omega arith in
    subst (λ j. is_digit (get_or (More (suc n) (x / 10) (digit (x % 10))) j 0) ≡ true) same
    (ap is_digit (at_last (suc n) (x / 10) (digit (x % 10))) ∙ remainder_digit x))

-- .. and there a digit exactly where the number fits
pub first-digit : (n x : ℕ) → x < 10 ^ suc n → is_digit (get_or (numeral (suc n) x) 0 0) ≡ true
unfolding numeral
first-digit zero x below = is_digit_lem (digit x) (omega arith) (omega (arith, pow-suc 10 0))
first-digit (suc n) x below =
    ap is_digit (before_last (suc n) (x / 10) (digit (x % 10)) 0 (omega arith)) ∙ first-digit n (x / 10) (tenth_below (suc n) x below)

pub no_first_digit : (n x : ℕ) → 10 ^ suc n ≤ x → is_digit (get_or (numeral (suc n) x) 0 0) ≡ false
unfolding numeral is_digit
no_first_digit zero x above =
    let high : 57 < digit x = omega (arith, pow-suc 10 0) in
    let low : 48 ≤ digit x = omega arith in
    simp (le-leb 48 (digit x) low, lt-leb (digit x) 57 high)
no_first_digit (suc n) x above =
    ap is_digit (before_last (suc n) (x / 10) (digit (x % 10)) 0 (omega arith))
    ∙ no_first_digit n (x / 10) (omega (arith, pow-suc 10 (suc n)))

-- Numbers read.
pub number_same : (s t : List ℕ) (a b n : ℕ) → ((i : ℕ) → i < n → get_or s (a + i) 0 ≡ get_or t (b + i) 0)
    → number_from s a n ≡ number_from t b n
unfolding number_from
number_same s t a b zero same = refl
number_same s t a b (suc n) same =
    ap₂ (λ v c. 10 * v + (c - 48)) (number_same s t a b n (λ i l. same i (omega arith))) (same n (omega arith))

pub number_below : (s : List ℕ) (a n : ℕ) → Digits s a n → number_from s a n < 10 ^ n
unfolding number_from
number_below s a zero all = omega arith
number_below s a (suc n) all =
    let before = number_below s a n (λ i l. all i (omega arith)) in
    let last = digit_bounds (get_or s (a + n) 0) (all n (omega arith)) in
    omega (arith, pow-suc 10 n)

-- reading what was written
pub number-numeral : (n x : ℕ) → x < 10 ^ n → number_from (numeral n x) 0 n ≡ x
unfolding number_from
number-numeral zero x below = omega (arith, below)
number-numeral (suc n) x below =
    let tenth = numeral n (x / 10) in
    let front : number_from (numeral (suc n) x) 0 n ≡ x / 10 =
    ap (λ s. number_from s 0 n) (numeral_last n x below)
    ∙ number_same (tenth ++ (digit (x % 10) ∷ [])) tenth 0 0 n (λ i l. before_last n (x / 10) (digit (x % 10)) (0 + i) (omega arith))
    ∙ number-numeral n (x / 10) (tenth_below n x below) in
    let last : get_or (numeral (suc n) x) (0 + n) 0 ≡ digit (x % 10) =
    ap₂ (λ s j. get_or s j 0) (numeral_last n x below) (zero-add n) ∙ at_last n (x / 10) (digit (x % 10)) in
    let whole : 10 * (x / 10) + (digit (x % 10) - 48) ≡ x = omega arith in
    ap₂ (λ v c. 10 * v + (c - 48)) front last ∙ whole

-- writing what was read
pub numeral-number : (s : List ℕ) (a n : ℕ) → Digits s a n → (i : ℕ) → i < n
    → get_or (numeral n (number_from s a n)) i 0 ≡ get_or s (a + i) 0
unfolding number_from
numeral-number s a zero all i l = absurd (omega arith)
numeral-number s a (suc n) all i l =
    let v = number_from s a n in
    let c = get_or s (a + n) 0 in
    let bounds = digit_bounds c (all n (omega arith)) in
    let x : ℕ = 10 * v + (c - 48) in
    let tenth : x / 10 ≡ v = omega arith in
    let last : digit (x % 10) ≡ c = omega arith in
    let written : numeral (suc n) x ≡ numeral n v ++ (c ∷ []) =
    numeral_last n x (number_below s a (suc n) all) ∙ ap₂ (λ t e. numeral n t ++ (e ∷ [])) tenth last in
    ap (λ t. get_or t i 0) written
    ∙ by_cases (dec_lt i n)
    (λ before. before_last n v c i before ∙ numeral-number s a n (λ j h. all j (omega arith)) i before)
    (λ here. let same : n ≡ i = omega arith in subst (λ j. get_or (numeral n v ++ (c ∷ [])) j 0 ≡ get_or s (a + j) 0) same (at_last n v c))
