-- The bytes of a number, the highest first, are those that its bits write: without its last byte the number is what the bits
-- before the last eight write, and its last byte is what these write.
use mathlib.Core.List.{[], ◌∷◌, ◌++◌}
use mathlib.Core.Path.{◌≡◌, ◌∙◌, ap, ap₂, refl, sym}
use Prim.Native.Nat.{ℕ, zero, suc, ◌+◌, ◌-◌, ◌*◌, ◌/◌, ◌%◌, ◌^◌, ◌<◌}
use native.Mathlib.Nat.{div-div-eq-div-mul, div-one, pow-succ'}
use native.Mathlib.Omega.{arith}
use Rattle.encoding.proofs.Bits.{number_lt, number_split}
use Rattle.encoding.proofs.Tab.{tab_congruent}
use Rattle.encoding.specs.Bits.{bytes_of_bits, number}
use Rattle.encoding.specs.Bytes.{highest_first}
use Rattle.encoding.specs.Sequence.{tab}

highest_first_last : (n x : ℕ) → highest_first (suc n) x ≡ highest_first n (x / 256) ++ (x % 256 ∷ [])
unfolding highest_first tab
highest_first_last n x =
    let last : suc n - 1 - n ≡ 0 = omega arith in
    ap₂ (λ xs y. xs ++ (y % 256 ∷ []))
    (tab_congruent n _ _
    (λ i l.
    let place : suc n - 1 - i ≡ suc (n - 1 - i) = omega arith in
    ap (λ k. x / 256 ^ k % 256) place
    ∙ ap (λ y. y % 256) (ap (λ m. x / m) (pow-succ' 256 (n - 1 - i)) ∙ sym (div-div-eq-div-mul x 256 (256 ^ (n - 1 - i))))))
    (ap (λ k. x / 256 ^ k) last ∙ div-one x)

pub bytes_of-number : (n : ℕ) (b : ℕ → ℕ) → ((k : ℕ) → k < 8 * n → b k < 2)
    → highest_first n (number (8 * n) b) ≡ bytes_of_bits n b
unfolding highest_first bytes_of_bits tab
bytes_of-number zero b bits = refl
bytes_of-number (suc n) b bits =
    let count : 8 * suc n ≡ 8 * n + 8 = omega arith in
    let front = number (8 * n) b in
    let last = number 8 (λ i. b (8 * n + i)) in
    let small : last < 2 ^ 8 = number_lt 8 _ (λ i l. bits (8 * n + i) (omega arith)) in
    let whole : number (8 * suc n) b ≡ front * 256 + last = ap (λ k. number k b) count ∙ number_split (8 * n) 8 b in
    let high : number (8 * suc n) b / 256 ≡ front = omega arith in
    let low : number (8 * suc n) b % 256 ≡ last = omega arith in
    highest_first_last n (number (8 * suc n) b)
    ∙ ap₂ (λ x y. highest_first n x ++ (y ∷ [])) high low
    ∙ ap (λ xs. xs ++ (last ∷ [])) (bytes_of-number n b (λ k l. bits k (omega arith)))
