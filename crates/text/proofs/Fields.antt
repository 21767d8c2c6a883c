-- Reading a field byte by byte: what each byte does, as the tests of the definition say.
use mathlib.Core.Bool.{true, false, ◌&&◌, ◌||◌, and-eq-true_iff}
use mathlib.Core.List.{List, [], ◌∷◌}
use mathlib.Core.Path.{◌≡◌, refl, ◌∙◌}
use Prim.Native.Nat.{ℕ, ◌+◌, ◌-◌, ◌*◌, ◌≤◌, ◌<◌}
use native.Mathlib.Decide.{ℕ_discrete}
use native.Mathlib.Omega.{arith}
use borrow.Author.Tests.{eq-eqb, le-ltb, ne_eqb, lt-ltb, ltb-true}
use lib.Dec.{eqb, ltb}
use Rattle.text.proofs.Digits.{digit_bounds, is_digit_lem}
use Rattle.std.specs.Bool.{then_some}
use Rattle.std.specs.Prelude.{None}
use Rattle.text.specs.Decimal.{is_digit}
use Rattle.text.specs.Field.{continues, field_from, found}

pub no_stop : (stop v n : ℕ) → field_from stop v n [] ≡ None
unfolding field_from
no_stop stop v n = refl

module _ (stop v n c : ℕ) (s : List ℕ) where
  pub stop_first : c ≡ stop → n ≡ 0 → field_from stop v n (c ∷ s) ≡ None
  unfolding field_from
  stop_first is none = simp (eq-eqb c stop is, eq-eqb n 0 none)

  pub stop_after : c ≡ stop → (n ≡ 0 → ⊥) → field_from stop v n (c ∷ s) ≡ found v (n + 1)
  unfolding field_from
  stop_after is some = simp (eq-eqb c stop is, ne_eqb n 0 some)

  pub stopped : c ≡ stop → field_from stop v n (c ∷ s) ≡ then_some (ltb 0 n) (record { value = v; bytes = n + 1 })
  stopped is = by (ℕ_discrete n 0)
    where
      by : Dec (n ≡ 0) → field_from stop v n (c ∷ s) ≡ then_some (ltb 0 n) (record { value = v; bytes = n + 1 })
      by (yes none) = stop_first is none ∙ simp (le-ltb 0 n (omega arith))
      by (no some) = stop_after is some ∙ simp (lt-ltb 0 n (omega arith))

  pub digit-more :
      (c ≡ stop → ⊥)
      → continues v n c ≡ true
      → field_from stop v n (c ∷ s) ≡ field_from stop (10 * v + (c - 48)) (n + 1) s
  unfolding field_from
  digit-more isnt more = simp (ne_eqb c stop isnt, more)

  pub digit_wrong : (c ≡ stop → ⊥) → continues v n c ≡ false → field_from stop v n (c ∷ s) ≡ None
  unfolding field_from
  digit_wrong isnt wrong = simp (ne_eqb c stop isnt, wrong)

-- what a digit that may follow is
pub record NextDigit (v n c : ℕ) : Type 0 where
  pub low : 48 ≤ c
  pub high : c ≤ 57
  pub below : v < 100000000
  pub lead : (n ≡ 0 → ⊥) → 0 < v

pub next-digit : (v n c : ℕ) → continues v n c ≡ true → NextDigit v n c
unfolding continues
next-digit v n c e =
    let whole = (and-eq-true_iff (is_digit c && ltb v 100000000) (eqb n 0 || ltb 0 v)).0 e in
    let front = (and-eq-true_iff (is_digit c) (ltb v 100000000)).0 whole.0 in
    let bounds = digit_bounds c front.0 in
    record {
      low = bounds.0;
      high = bounds.1;
      below = ltb-true v 100000000 front.1;
      lead = λ some. ltb-true 0 v (rw (ne_eqb n 0 some) at whole.1);
    }

pub is_next : (v n c : ℕ) → NextDigit v n c → continues v n c ≡ true
unfolding continues
is_next v n c next = by (ℕ_discrete n 0)
  where
    by : Dec (n ≡ 0) → continues v n c ≡ true
    by (yes none) = simp (is_digit_lem c next.low next.high, lt-ltb _ _ next.below, eq-eqb _ _ none)
    by (no some) =
        simp (is_digit_lem c next.low next.high, lt-ltb _ _ next.below, ne_eqb _ _ some, lt-ltb _ _ (next.lead some))
