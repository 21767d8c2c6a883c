-- The answers of the check, one by one: each test of the definition is passed or decides. Two sequences that differ at a place
-- are not the same.
use Rattle.refusal.specs.Refusals.{done}
use Rattle.std.specs.Prelude.{Err, None, Some}
use mathlib.Core.Bool.{Bool, cond, false, not, true}
use mathlib.Core.List.{List}
use mathlib.Core.Path.{◌≡◌, ◌∙◌, ap, refl}
use Prim.Native.Nat.{ℕ, ◌+◌, ◌*◌, ◌<◌}
use borrow.Author.Tests.{eq-eqb, ne_eqb}
use lib.ListN.{length}
use Rattle.assignment.proofs.EntriesBelow.{limit_before}
use Rattle.assignment.specs.Assignment.{entry}
use Rattle.assignment.specs.BelowPrime.{below_prime_answer}
use Rattle.circuit.specs.Circuit.{row_at}
use Rattle.circuit.specs.Places.{row_count}
use Rattle.circuit.specs.Wires.{wire_count}
use Rattle.circuit.specs.declared.circuits.Circuit.{Circuit}
use Rattle.encoding.specs.Bits.{bit_of_bytes}
use Rattle.acceptance.proofs.Acceptance.{same_iff}
use Rattle.acceptance.specs.Check.{after_rows, circuit_check, same}
use Rattle.refusal.specs.declared.numbers.RowNumber.{RowNumber}
use Rattle.refusal.specs.declared.outcome.Refusal.TheVariants.{DigestNot32, DigestWire, Unsatisfied, WireZero, WrongLength}
use Rattle.refusal.specs.declared.outcome.Refusal.{Refusal}
use Rattle.satisfaction.specs.Lowest.{lowest}

pub differs : (n : ℕ) (f g : ℕ → ℕ) (k : ℕ) → k < n → (f k ≡ g k → ⊥) → same n f g ≡ false
differs n f g k l h = go (same n f g) refl
  where
    go : (b : Bool) → same n f g ≡ b → b ≡ false
    go true e = absurd (h ((same_iff n f g).0 e k l))
    go false e = refl

module _ (C : Circuit) (d a : List ℕ) where
  pub refusal_5 : (length d ≡ 32 → ⊥) → circuit_check C d a ≡ Err DigestNot32
  unfolding circuit_check
  refusal_5 h = rw (ne_eqb (length d) 32 h)

  module _ (digest : length d ≡ 32) where
    pub refusal_6 : (length a ≡ 8 * wire_count C → ⊥) → circuit_check C d a ≡ Err WrongLength
    unfolding circuit_check
    refusal_6 h = rw (eq-eqb (length d) 32 digest, ne_eqb (length a) (8 * wire_count C) h)

    module _ (entries : length a ≡ 8 * wire_count C) where
      pub refusal_20 : (r : Refusal) → below_prime_answer (wire_count C) a done ≡ Err r → circuit_check C d a ≡ Err r
      unfolding circuit_check
      refusal_20 r h =
          rw (eq-eqb (length d) 32 digest, eq-eqb (length a) (8 * wire_count C) entries) ((limit_before _ _ (wire_count C) a).stands r _ h)

      -- past refusal 20
      module _ (below : below_prime_answer (wire_count C) a done ≡ done) where
        pub refusal_7 : (entry a 0 ≡ 1 → ⊥) → circuit_check C d a ≡ Err WireZero
        unfolding circuit_check
        refusal_7 h =
            rw (eq-eqb (length d) 32 digest, eq-eqb (length a) (8 * wire_count C) entries, ne_eqb (entry a 0) 1 h)
            ((limit_before _ _ (wire_count C) a).passed _ below)

        -- past refusal 7
        module _ (one : entry a 0 ≡ 1) where
          from-wires : (wires : Bool) → same 256 (λ k. entry a (1 + k)) (bit_of_bytes d) ≡ wires
              → circuit_check C d a ≡ cond (not wires) (Err DigestWire) (after_rows (lowest (entry a) (row_at C) 0 (row_count C)))
          unfolding circuit_check
          from-wires wires e =
              rw (eq-eqb (length d) 32 digest, eq-eqb (length a) (8 * wire_count C) entries, eq-eqb (entry a 0) 1 one, e)
              ((limit_before _ _ (wire_count C) a).passed _ below)

          pub refusal_8 : same 256 (λ k. entry a (1 + k)) (bit_of_bytes d) ≡ false → circuit_check C d a ≡ Err DigestWire
          refusal_8 = from-wires false

          -- past refusal 8
          module _ (wires : same 256 (λ k. entry a (1 + k)) (bit_of_bytes d) ≡ true) where
            pub refusal_9 : (k : RowNumber) → lowest (entry a) (row_at C) 0 (row_count C) ≡ Some k → circuit_check C d a ≡ Err (Unsatisfied k)
            refusal_9 k e = from-wires true wires ∙ ap after_rows e

            pub no_refusal : lowest (entry a) (row_at C) 0 (row_count C) ≡ None → circuit_check C d a ≡ done
            no_refusal e = from-wires true wires ∙ ap after_rows e
