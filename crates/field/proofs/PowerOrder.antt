-- The order of h modulo p. Let n be a product of primes with h ^ n = 1, none of them needless: h ^ (n / q) is not 1. Then
-- each k with h ^ k = 1 is a multiple of n. Take a prime q of n. If it divides k, go on with h ^ q, k / q and n / q. If it does
-- not, k has an inverse u modulo q. Then k u (n / q) is a multiple of n and n / q more, so h ^ (n / q) is 1 and q is needless.
use mathlib.Core.Bool.{Bool, true, false, not, ◌&&◌, and-eq-true_iff, false≢true}
use mathlib.Core.List.{List, [], ◌∷◌}
use mathlib.Core.Logic.{◌⊎◌, inl, inr, ⊎_elim, ◌≢◌}
use mathlib.Core.Path.{◌≡◌, refl, ◌∙◌, sym, ap, subst}
use Prim.Native.Nat.{ℕ, zero, suc, ◌+◌, ◌-◌, ◌*◌, ◌^◌, ◌/◌, ◌%◌, ◌<◌}
use native.Mathlib.Nat.{div-add-mod, eq-or-lt_of_le, le_of_suc-le-suc, mod-lt, mod-mod, mul-one, not-suc-le-zero, zero-lt-suc}
use native.Mathlib.Omega.{arith}
use borrow.Author.Tests.{eqb-true, eqb-false, not-true}
use lib.Dec.{eqb}
use lib.Pow.{pow-add}
use Rattle.field.proofs.Congruence.{mul_congr, pow_congr}
use Rattle.field.proofs.Power.{one-mul-mod, one-pow-mod, pow-mul, pow-one, pow-pow-mod, power, power_is}

-- each number r from 1 to n has the inverse r ^ (q - 2) modulo q
abbrev inverted : ℕ → ℕ → Bool
inverted q zero = true
inverted q (suc n) = eqb (suc n * suc n ^ (q - 2) % q) 1 && inverted q n

-- each number from 1 to q - 1 has an inverse modulo q
abbrev prime : ℕ → Bool
prime zero = false
prime (suc n) = inverted (suc n) n

abbrev pub product : List ℕ → ℕ
product [] = 1
product (q ∷ qs) = q * product qs

-- h has the order `product qs` modulo p: each q is a prime that is not needless. Exponents have at most 61 binary digits
abbrev pub certificate : ℕ → ℕ → List ℕ → Bool
certificate p h [] = eqb (h % p) (1 % p)
certificate p h (q ∷ qs) =
    prime q && (not (eqb (power p 61 h (product qs)) (1 % p)) && certificate p (power p 61 h q) qs)

inverted-at : (q n : ℕ) → inverted q n ≡ true → (r : ℕ) → r < n → (suc r * suc r ^ (q - 2)) % q ≡ 1
inverted-at q zero t r h = absurd (not-suc-le-zero h)
inverted-at q (suc n) t r h =
    let parts = (and-eq-true_iff _ (inverted q n)).0 t in
    ⊎_elim (λ e. rw e (eqb-true _ _ parts.0)) (λ l. inverted-at q n parts.1 r (le_of_suc-le-suc l)) (eq-or-lt_of_le h)

multiple_or_unit : (q : ℕ) → prime q ≡ true → (k : ℕ) → (k % q ≡ 0) ⊎ ((u : ℕ) × ((k * u) % q ≡ 1))
multiple_or_unit zero t k = absurd (false≢true t)
multiple_or_unit (suc n) t k = go (k % suc n) refl
  where
    go : (r : ℕ) → k % suc n ≡ r → (k % suc n ≡ 0) ⊎ ((u : ℕ) × ((k * u) % suc n ≡ 1))
    go zero e = inl e
    go (suc r) e =
        let same : k % suc n ≡ suc r % suc n = sym (mod-mod k (suc n)) ∙ ap (λ (x : ℕ). x % suc n) e in
        inr (
          k ^ (suc n - 2),
          mul_congr (suc n) _ _ _ _ same (pow_congr (suc n) k (suc r) (suc n - 2) same)
              ∙ inverted-at (suc n) n t r (omega (arith, mod-lt k (zero-lt-suc n))),
        )

-- what a certificate says of its first prime, and of the rest
told : (p h q : ℕ) (qs : List ℕ) → certificate p h (q ∷ qs) ≡ true
    → (prime q ≡ true) × (h ^ product qs % p ≢ 1 % p) × (certificate p (h ^ q % p) qs ≡ true)
told p h q qs t =
    let first = (and-eq-true_iff (prime q) _).0 t in
    let rest = (and-eq-true_iff (not (eqb (power p 61 h (product qs)) (1 % p))) _).0 first.1 in (
      first.0,
      λ e. eqb-false _ _ (not-true _ rest.0) (power_is p 61 h (product qs) ∙ e),
      subst (λ (x : ℕ). certificate p x qs ≡ true) (power_is p 61 h q) rest.1,
    )

pub pow_order : (p : ℕ) (qs : List ℕ) (h : ℕ) → certificate p h qs ≡ true → h ^ product qs % p ≡ 1 % p
pow_order p [] h t = ap (λ (x : ℕ). x % p) (pow-one h) ∙ eqb-true _ _ t
pow_order p (q ∷ qs) h t = sym (pow-pow-mod p h q (product qs)) ∙ pow_order p qs (h ^ q % p) (told p h q qs t).2

needless : (p h k u q m : ℕ) → h ^ k % p ≡ 1 % p → h ^ (q * m) % p ≡ 1 % p → (k * u) % q ≡ 1 → h ^ m % p ≡ 1 % p
needless p h k u q m e f i =
    let w : ℕ = k * u / q in
    let unit : q * w + 1 ≡ k * u = omega (arith, div-add-mod (k * u) q) in
    let exponents : q * m * w + m ≡ k * (u * m) = omega (arith, ap (λ (n : ℕ). n * m) unit) in
    let powers : (h ^ (q * m)) ^ w * h ^ m ≡ (h ^ k) ^ (u * m) =
    rw (← pow-mul h (q * m) w, ← pow-mul h k (u * m), ← pow-add h (q * m * w) m) (ap (λ (n : ℕ). h ^ n) exponents) in
    sym (one-mul-mod p _ (h ^ m) (one-pow-mod p _ w f)) ∙ ap (λ (x : ℕ). x % p) powers ∙ one-pow-mod p _ (u * m) e

pub order_divides : (p : ℕ) (qs : List ℕ) (h k : ℕ) → certificate p h qs ≡ true → h ^ k % p ≡ 1 % p → (c : ℕ) × (c * product qs ≡ k)
order_divides p [] h k t e = (k, mul-one k)
order_divides p (q ∷ qs) h k t e =
    let (isPrime, needed, rest) = told p h q qs t in
    ⊎_elim
    (λ z.
    let times : q * (k / q) ≡ k = omega (arith, div-add-mod k q) in
    let (c, f) = order_divides p qs (h ^ q % p) (k / q) rest (pow-pow-mod p h q (k / q) ∙ ap (λ (n : ℕ). h ^ n % p) times ∙ e) in
    (c, omega (arith, ap (λ (n : ℕ). q * n) f)))
    (λ (u, i). absurd (needed (needless p h k u q (product qs) e (pow_order p (q ∷ qs) h t) i)))
    (multiple_or_unit q isPrime k)
