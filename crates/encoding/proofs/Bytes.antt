-- Numbers and their bytes. The bytes of a number, the least first, are its digits to the base 256, so n of them read back the
-- number below 256^n that they were written from.
use mathlib.Core.List.{List}
use mathlib.Core.Path.{◌≡◌, ◌∙◌, ap, ap₂, fun_ext, refl, sym}
use Prim.Native.Nat.{ℕ, zero, suc, ◌+◌, ◌-◌, ◌*◌, ◌/◌, ◌%◌, ◌^◌, ◌<◌}
use native.Mathlib.Nat.{add-zero, div-div-eq-div-mul, div-one, mod-one, one-le-pow, pow-suc, pow-succ', suc-add, zero-add}
use native.Mathlib.Numerals.{add-one}
use native.Mathlib.Omega.{arith}
use lib.Arith.{mod-mul}
use lib.Dec.{lit<, lit≤}
use lib.IntN.{ℤ, negsuc, pos}
use lib.ListN.{get_or, length, set}
use Rattle.encoding.proofs.Tab.{get_or-tab, length-tab}
use Rattle.encoding.proofs.Written.{written_one, written_then}
use Rattle.encoding.specs.Bytes.{Bytes, from_least_first, highest_first, least_first, twos_complement}
use Rattle.encoding.specs.Sequence.{tab}
use Rattle.encoding.specs.Written.{Written}

-- the number with the n digits d to the base 256, the lowest first
base256 : ℕ → (ℕ → ℕ) → ℕ
base256 zero d = 0
base256 (suc n) d = d 0 + 256 * base256 n (λ i. d (suc i))

from-digits : (n : ℕ) (bytes : List ℕ) (k : ℕ) (d : ℕ → ℕ) → ((i : ℕ) → i < n → get_or bytes (k + i) 0 ≡ d i)
    → from_least_first n bytes k ≡ base256 n d
unfolding from_least_first base256
from-digits zero bytes k d e = refl
from-digits (suc n) bytes k d e =
    let next : (i : ℕ) → k + 1 + i ≡ k + suc i = λ i. omega arith in
    ap₂ (λ x y. x + 256 * y) (ap (λ j. get_or bytes j 0) (sym (add-zero k)) ∙ e 0 (omega arith))
    (from-digits n bytes (k + 1) (λ i. d (suc i)) (λ i l. ap (λ j. get_or bytes j 0) (next i) ∙ e (suc i) (omega arith)))

digits_of : (n v : ℕ) → base256 n (λ i. v / 256 ^ i % 256) ≡ v % 256 ^ n
unfolding base256
digits_of zero v = sym (mod-one v)
digits_of (suc n) v =
    let above : (i : ℕ) → v / 256 ^ suc i % 256 ≡ v / 256 / 256 ^ i % 256 =
    λ i. ap (λ x. x % 256) (ap (λ m. v / m) (pow-succ' 256 i) ∙ sym (div-div-eq-div-mul v 256 (256 ^ i))) in
    ap₂ (λ x y. x + 256 * y) (ap (λ x. x % 256) (div-one v)) (ap (base256 n) (fun_ext above) ∙ digits_of n (v / 256))
    ∙ omega (arith, mod-mul v {m = 256 ^ n} {c = 256} (one-le-pow n 256 (lit≤ tt)) (lit< tt), ap (λ m. v % m) (pow-suc 256 n))

-- n bytes read back what they were written from
pub from-least_first : (n v : ℕ) → from_least_first n (least_first n v) 0 ≡ v % 256 ^ n
unfolding least_first
from-least_first n v =
    from-digits n (least_first n v) 0 (λ i. v / 256 ^ i % 256)
    (λ i l. ap (λ j. get_or (least_first n v) j 0) (zero-add i) ∙ get_or-tab n (λ i. v / 256 ^ i % 256) i 0 l)
    ∙ digits_of n v

-- .. and each byte is read back from the number that they write
pub byte_of_number : (n : ℕ) (bytes : List ℕ) → Bytes bytes → (k i : ℕ) → i < n
    → from_least_first n bytes k / 256 ^ i % 256 ≡ get_or bytes (k + i) 0
unfolding from_least_first
byte_of_number zero bytes h k i l = absurd (omega arith)
byte_of_number (suc n) bytes h k zero l =
    ap (λ x. x % 256) (div-one _) ∙ omega (arith, h k) ∙ ap (λ j. get_or bytes j 0) (sym (add-zero k))
byte_of_number (suc n) bytes h k (suc i) l =
    let rest : ℕ = from_least_first n bytes (k + 1) in
    let above : (get_or bytes k 0 + 256 * rest) / 256 ≡ rest = omega (arith, h k) in
    let place : k + 1 + i ≡ k + suc i = omega arith in
    ap (λ x. x % 256)
    (ap (λ m. (get_or bytes k 0 + 256 * rest) / m) (pow-succ' 256 i)
    ∙ sym (div-div-eq-div-mul (get_or bytes k 0 + 256 * rest) 256 (256 ^ i))
    ∙ ap (λ x. x / 256 ^ i) above)
    ∙ byte_of_number n bytes h (k + 1) i (omega arith)
    ∙ ap (λ j. get_or bytes j 0) place

-- only the n bytes that are read count
pub from_bytes_congruent : (n : ℕ) (xs ys : List ℕ) (j k : ℕ) → ((i : ℕ) → i < n → get_or xs (j + i) 0 ≡ get_or ys (k + i) 0)
    → from_least_first n xs j ≡ from_least_first n ys k
from_bytes_congruent n xs ys j k e =
    from-digits n xs j (λ i. get_or ys (k + i) 0) e ∙ sym (from-digits n ys k (λ i. get_or ys (k + i) 0) (λ i l. refl))

pub length-highest_first : (n v : ℕ) → length (highest_first n v) ≡ n
unfolding highest_first
length-highest_first n v = length-tab n _

pub length-least_first : (n v : ℕ) → length (least_first n v) ≡ n
unfolding least_first
length-least_first n v = length-tab n _

pub length-twos_complement : (n : ℕ) (z : ℤ) → length (twos_complement n z) ≡ n
unfolding twos_complement
length-twos_complement n (pos x) = length-least_first n x
length-twos_complement n (negsuc x) = length-least_first n (256 ^ n - suc x)

-- a number's next byte, and what is left of the number
pub next-byte : {l l' : List ℕ} (at i x : ℕ) → Written at (least_first i x) l l'
    → Written at (least_first (i + 1) x) l (set l' (at + i) (x / 256 ^ i % 256))
unfolding least_first tab
next-byte {l} {l'} at i x h =
    let long : at + i ≡ at + length (least_first i x) = ap (λ k. at + k) (sym (length-least_first i x)) in
    let more = written_then (at + i) long h (written_one (at + i) (x / 256 ^ i % 256) l') in
    rw (add-one i) more

pub next-left : (x i : ℕ) → x / 256 ^ i / 256 ≡ x / 256 ^ (i + 1)
next-left x i = div-div-eq-div-mul x (256 ^ i) 256 ∙ ap (λ n. x / n) (sym (pow-suc 256 i) ∙ ap (λ n. 256 ^ n) (sym (add-one i)))

-- the number that bytes write is made of the numbers that its parts write: what stands m bytes further on weighs 256^m
pub from_parts : (m n : ℕ) (bytes : List ℕ) (k : ℕ)
    → from_least_first (m + n) bytes k ≡ from_least_first m bytes k + 256 ^ m * from_least_first n bytes (k + m)
unfolding from_least_first
from_parts zero n bytes k =
    let here : from_least_first n bytes (k + 0) ≡ from_least_first n bytes k = ap (from_least_first n bytes) (add-zero k) in
    ap (λ i. from_least_first i bytes k) (zero-add n) ∙ omega arith
from_parts (suc m) n bytes k =
    let place : k + 1 + m ≡ k + suc m = omega arith in
    let rest : from_least_first n bytes (k + 1 + m) ≡ from_least_first n bytes (k + suc m) = ap (from_least_first n bytes) place in
    let weight : 256 ^ suc m * from_least_first n bytes (k + suc m) ≡ 256 ^ m * 256 * from_least_first n bytes (k + suc m) =
    ap (λ x. x * from_least_first n bytes (k + suc m)) (pow-suc 256 m) in
    ap (λ i. from_least_first i bytes k) (suc-add m n)
    ∙ omega (arith, from_parts m n bytes (k + 1), ap (λ x. 256 ^ m * x) rest)

pub from-four : (bytes : List ℕ) (k : ℕ)
    → from_least_first 4 bytes k
    ≡ get_or bytes k 0 + get_or bytes (k + 1) 0 * 256 + get_or bytes (k + 2) 0 * 65536 + get_or bytes (k + 3) 0 * 16777216
unfolding from_least_first
from-four bytes k =
    let two : k + 1 + 1 ≡ k + 2 = omega arith in
    let three : k + 1 + 1 + 1 ≡ k + 3 = omega arith in
    omega (arith, ap (λ j. get_or bytes j 0) two, ap (λ j. get_or bytes j 0) three)
