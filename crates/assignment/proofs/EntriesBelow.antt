-- Entries below a limit. They are asked from wire 0 on, so where an entry is below the limit those after it decide; and where all of
-- them put together by `or` are below it, each of them is.
use Rattle.refusal.specs.Refusals.{Outcome, done}
use Rattle.std.specs.Prelude.{Err, Some, None, Option}
use Rattle.std.proofs.Common.{◌≡◌, ℕ, ◌+◌, ◌-◌, ◌*◌, ◌<◌, ◌≤◌, ◌↔◌, List, length, sym, ap, ◌∙◌, subst, arith, lit<, below_none, below_more, ltb-true, le-ltb, lt-ltb}
use Rattle.std.proofs.lemmas.Option.{none-some}
use mathlib.Core.Logic.{by_cases}
use native.Mathlib.Decide.{dec_lt}
use lib.Bits.{and_le_l, and_le_r, bit_or, or_add_and}
use Rattle.assignment.proofs.Entries.{entry_past}
use Rattle.assignment.specs.Assignment.{entry}
use Rattle.assignment.specs.BelowPrime.{below_prime_answer, limit_answer}
use Rattle.assignment.specs.Bounded.{AtMost, BelowPrime, lowest_not_below}
use Rattle.encoding.proofs.Lowest as failing
use Rattle.field.specs.Field.{p}
use Rattle.refusal.proofs.Tests.{Before, refused_done}
use Rattle.refusal.specs.declared.numbers.WireNumber.{WireNumber}
use Rattle.refusal.specs.declared.outcome.Refusal.TheVariants.{EntryNotBelowPrime}
use Rattle.refusal.specs.declared.outcome.Refusal.{Refusal}

-- Entries put together.

pub none_seen : (w : ℕ) (bytes : List ℕ) → AtMost w 0 0 bytes
none_seen w bytes = record { each = below_none (λ i. entry bytes (w + i) ≤ 0) }

pub one_seen : {w i seen n : ℕ} {bytes : List ℕ} → n ≡ entry bytes (w + i) → AtMost w i seen bytes → AtMost w (i + 1) (bit_or seen n) bytes
one_seen {w} {i} {seen} {n} {bytes} e h =
    record {
      each =
          below_more (λ i. entry bytes (w + i) ≤ bit_or seen n) i
          (λ j l. omega (arith, h.each j l, or_add_and seen n, and_le_r seen n))
          (subst (λ x. x ≤ bit_or seen n) e (omega (arith, or_add_and seen n, and_le_l seen n)));
    }

-- The lowest entry that is not below the limit.

module _ (limit : ℕ) (bytes : List ℕ) where
  -- Of the wires from k on and below n.
  module _ (n k : ℕ) where
    pub asked_end : n ≤ k → lowest_not_below limit bytes k (n - k) ≡ None
    unfolding lowest_not_below
    asked_end = failing.lowest_end _ _ None n k

    -- wire k
    module _ (l : k < n) where
      pub asked_below : entry bytes k < limit → lowest_not_below limit bytes k (n - k) ≡ lowest_not_below limit bytes (k + 1) (n - (k + 1))
      unfolding lowest_not_below
      asked_below h = failing.lowest-holds _ _ None n k l (lt-ltb (entry bytes k) limit h)

      pub asked_not_below : limit ≤ entry bytes k → lowest_not_below limit bytes k (n - k) ≡ Some (record { 0 = k })
      unfolding lowest_not_below
      asked_not_below h = failing.lowest_fails _ _ None n k l (le-ltb (entry bytes k) limit h)

  -- where the m entries from k on put together are below the limit
  pub seen_below : (k m x : ℕ) → x < limit → AtMost k m x bytes → lowest_not_below limit bytes k m ≡ None
  unfolding lowest_not_below
  seen_below k m x few seen =
      failing.lowest-none _ _ None k m
      (λ w l h.
      let place : k + (w - k) ≡ w = omega arith in
      lt-ltb (entry bytes w) limit (omega (arith, subst (λ v. entry bytes v ≤ x) place (seen.each (w - k) (omega arith)))))

  -- Of the wires from k on and below n the first m are asked: where these are below the limit the others decide, else it is among them.
  module _ (n k m : ℕ) (l : k + m ≤ n) where
    pub run_below : lowest_not_below limit bytes k m ≡ None
        → lowest_not_below limit bytes k (n - k) ≡ lowest_not_below limit bytes (k + m) (n - (k + m))
    unfolding lowest_not_below
    run_below e = failing.lowest-past _ _ None n k m l (failing.none_all _ _ None (λ w e. none-some _ (sym e)) k m e)

    pub run_found : (v : WireNumber) → lowest_not_below limit bytes k m ≡ Some v → lowest_not_below limit bytes k (n - k) ≡ Some v
    unfolding lowest_not_below
    run_found v e =
        failing.lowest-parted _ _ None n k m l
        ∙ failing.lowest_among _ _ None (λ w e. none-some _ (sym e)) k m _ (λ none. none-some v (sym none ∙ e))
        ∙ e

-- An answer that refuses the lowest entry that is not below a limit.

-- what is answered where the lowest such entry is known
abbrev pub refused_by : (WireNumber → Refusal) → Option WireNumber → Outcome
refused_by refusal None = done
refused_by refusal (Some w) = Err (refusal w)

module _ (refusal : WireNumber → Refusal) (limit n : ℕ) (a : List ℕ) where
  pub refused_by-lowest : refused_by refusal (lowest_not_below limit a 0 n) ≡ limit_answer refusal limit n a done
  unfolding lowest_not_below limit_answer
  refused_by-lowest = failing.lowest-map _ _ (refused_by refusal) None 0 n

  pub none_refused : lowest_not_below limit a 0 n ≡ None → limit_answer refusal limit n a done ≡ done
  none_refused e = sym refused_by-lowest ∙ ap (refused_by refusal) e

  pub lowest_refused : {w : WireNumber} → lowest_not_below limit a 0 n ≡ Some w → limit_answer refusal limit n a done ≡ Err (refusal w)
  lowest_refused e = sym refused_by-lowest ∙ ap (refused_by refusal) e

  -- the test stands before any further answer
  pub limit_before : Before (limit_answer refusal limit n a)
  unfolding limit_answer
  limit_before =
      record {
        stands = λ r next e. failing.lowest_among _ _ done (λ w. refused_done _) 0 n next (λ d. refused_done r (sym e ∙ d)) ∙ e;
        passed = λ next e. failing.lowest-none _ _ next 0 n (failing.none_all _ _ done (λ w. refused_done _) 0 n e);
      }

  -- an answer that is not this refusal comes from what follows, where all entries are below the limit
  pub limit_past : (next z : Outcome) → ((w : ℕ) → Err (refusal (record { 0 = w })) ≡ z → ⊥)
      → (limit_answer refusal limit n a next ≡ z) ↔ (((w : ℕ) → w < n → entry a w < limit) × (next ≡ z))
  unfolding limit_answer
  limit_past next z other = (
    failing.by_lowest _ _ (λ x. x ≡ z → ((w : ℕ) → w < n → entry a w < limit) × (next ≡ z)) next 0 n
        (λ all e. (λ w l. ltb-true (entry a w) limit (all w (omega arith) (omega arith)), e))
        (λ w low e. absurd (other w e)),
    λ (below, e). failing.lowest-none _ _ next 0 n (λ w l h. lt-ltb (entry a w) limit (below w (omega arith))) ∙ e,
  )

  -- what holds of the refusal of each of the n wires and of what follows holds of the answer
  pub limit_holds : (P : Outcome → Type 0) (next : Outcome) → ((w : ℕ) → w < n → P (Err (refusal (record { 0 = w })))) → P next
      → P (limit_answer refusal limit n a next)
  unfolding limit_answer
  limit_holds P next each last = failing.by_lowest _ _ P next 0 n (λ _. last) (λ w low. each w (omega (arith, low.below)))

-- Refusal 20.

-- the entries of n wires, and what would stand past them
pub below_all : (n : ℕ) (a : List ℕ) → length a ≡ 8 * n → ((w : ℕ) → w < n → entry a w < p) → BelowPrime a
below_all n a long below =
    record {
      each = λ w. by_cases (dec_lt w n) (below w) (λ past. subst (λ x. x < p) (sym (entry_past n a long w (omega arith))) (lit< tt));
    }

-- .. where the test is passed
pub below_done : (n : ℕ) (a : List ℕ) → length a ≡ 8 * n → below_prime_answer n a done ≡ done → BelowPrime a
below_done n a long e = below_all n a long ((limit_past EntryNotBelowPrime p n a done done (λ w. refused_done _)).0 e).0
