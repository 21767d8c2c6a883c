-- Refusals 20 and 10 of the first n entries. Both answer with the lowest entry that is not below a limit, and what is below 2 is below
-- the prime: so neither refuses exactly where all entries are bits.
use Rattle.refusal.specs.declared.outcome.Refusal.{Refusal}
use Rattle.refusal.specs.declared.numbers.WireNumber.{WireNumber}
use Rattle.refusal.specs.Refusals.{done}
use Rattle.std.specs.Prelude.{None, Option, Err, Some}
use mathlib.Core.List.{List}
use mathlib.Core.Logic.{◌↔◌}
use mathlib.Core.Path.{◌≡◌, ◌∙◌, ap, refl, sym}
use Prim.Native.Nat.{ℕ, ◌<◌}
use native.Mathlib.Omega.{arith}
use Rattle.assignment.proofs.EntriesBelow.{limit_before, limit_past, refused_by-lowest, refused_by}
use Rattle.assignment.specs.Assignment.{entry}
use Rattle.assignment.specs.BelowPrime.{below_prime_answer}
use Rattle.assignment.specs.Bounded.{lowest_not_below}
use Rattle.packing.specs.Pack.{bits_answer}
use Rattle.refusal.proofs.Tests.{refused_done}
use Rattle.refusal.specs.declared.outcome.Refusal.TheVariants.{EntryNotBelowPrime, EntryNotBit}

module _ (n : ℕ) (a : List ℕ) where
  bits_done : (bits_answer n a ≡ done) ↔ (((w : ℕ) → w < n → entry a w < 2) × (done ≡ done))
  bits_done = limit_past EntryNotBit 2 n a done done (λ w. refused_done _)

  pub asked_done : (below_prime_answer n a (bits_answer n a) ≡ done) ↔ ((w : ℕ) → w < n → entry a w < 2)
  asked_done =
      let past = limit_past EntryNotBelowPrime _ n a (bits_answer n a) done (λ w. refused_done _) in (
        λ e. (bits_done.0 (past.0 e).1).0,
        λ bits. past.1 (λ w l. omega (arith, bits w l), bits_done.1 (bits, refl)),
      )

  -- refusal 10 by the lowest entry that is no bit, and neither refusal where there is none
  pub bits_by_lowest : (lowest : Option WireNumber) → lowest_not_below 2 a 0 n ≡ lowest → bits_answer n a ≡ refused_by EntryNotBit lowest
  bits_by_lowest lowest e = sym (refused_by-lowest EntryNotBit 2 n a) ∙ ap (refused_by EntryNotBit) e

  pub asked_none : lowest_not_below 2 a 0 n ≡ None → below_prime_answer n a (bits_answer n a) ≡ done
  asked_none e = asked_done.1 (bits_done.0 (bits_by_lowest None e)).0

  -- refusal 20 comes first, and where it is not due 10 names the entry that was found
  pub asked_refused : (r : Refusal) → below_prime_answer n a done ≡ Err r → below_prime_answer n a (bits_answer n a) ≡ Err r
  asked_refused r e = (limit_before _ _ _ _).stands _ _ e

  pub asked_bit : (w : WireNumber) → lowest_not_below 2 a 0 n ≡ Some w → below_prime_answer n a done ≡ done
      → below_prime_answer n a (bits_answer n a) ≡ Err (EntryNotBit w)
  asked_bit w found below = (limit_before _ _ _ _).passed _ below ∙ bits_by_lowest (Some w) found
