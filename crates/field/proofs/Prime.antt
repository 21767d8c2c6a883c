-- p has no zero divisors, by Lucas's criterion: 37 has the order p - 1 modulo p, which is computed from the primes of p - 1.
use mathlib.Core.List.{List, [], ◌∷◌}
use mathlib.Core.Logic.{◌⊎◌}
use mathlib.Core.Path.{◌≡◌, refl}
use Prim.Native.Nat.{ℕ, ◌*◌, ◌%◌}
use Rattle.field.specs.Field.{p}
use Rattle.field.proofs.Lucas.{lucas}
use Rattle.field.proofs.Power.{power}

-- the primes of p - 1, each as often as it divides
abbrev factors : List ℕ
factors = 1321 ∷ 331 ∷ 151 ∷ 61 ∷ 41 ∷ 31 ∷ 13 ∷ 11 ∷ 7 ∷ 5 ∷ 5 ∷ 3 ∷ 3 ∷ 2 ∷ []

pub no_zero_divisors : (a b : ℕ) → (a * b) % p ≡ 0 → (a % p ≡ 0) ⊎ (b % p ≡ 0)
unfolding power
no_zero_divisors = lucas p 37 factors refl refl
