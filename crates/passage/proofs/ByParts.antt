-- What holds at the places of each field and at each comma holds at all 63 places of a line.
use mathlib.Core.Logic.{by_cases}
use mathlib.Core.Path.{◌≡◌, subst}
use Prim.Native.Nat.{ℕ, ◌+◌, ◌-◌, ◌<◌, ◌≤◌}
use native.Mathlib.Decide.{dec_lt}
use native.Mathlib.Omega.{arith}

module _ (P : ℕ → Type 0) where
  -- P holds at the m places from `at` on
  abbrev Along : ℕ → ℕ → Type 0
  Along at m = (i : ℕ) → i < m → P (at + i)

  -- a field and the comma behind it, and what stands behind that
  field_and_comma : (at m : ℕ) → Along at m → P (at + m) → ((k : ℕ) → at + m + 1 ≤ k → k < 63 → P k) → (k : ℕ) → at ≤ k → k < 63 → P k
  field_and_comma at m field comma more k low high =
      by_cases (dec_lt k (at + m))
      (λ inside. let place : at + (k - at) ≡ k = omega arith in subst P place (field (k - at) (omega arith)))
      (λ past.
      by_cases (dec_lt (at + m) k) (λ behind. more k (omega arith) high) (λ here. let place : at + m ≡ k = omega arith in subst P place comma))

  pub by_parts : Along 0 3 → P 3 → Along 4 10 → P 14 → Along 15 1 → P 16 → Along 17 2 → P 19 → Along 20 10 → P 30 → Along 31 32
      → (k : ℕ) → k < 63 → P k
  by_parts lane c3 time c14 class c16 axles c19 plate c30 blind k =
      field_and_comma 0 3 lane c3
      (field_and_comma 4 10 time c14
      (field_and_comma 15 1 class c16
      (field_and_comma 17 2 axles c19
      (field_and_comma 20 10 plate c30
      (λ k low high. let place : 31 + (k - 31) ≡ k = omega arith in subst P place (blind (k - 31) (omega arith)))))))
      k (omega arith)
