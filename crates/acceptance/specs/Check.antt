-- The answer of the check of a circuit's assignment against a digest (document 01, "Refusals in checking order"; document 02,
-- request 6).
use Rattle.refusal.specs.declared.numbers.RowNumber.{RowNumber}
use Rattle.refusal.specs.Refusals.{Outcome, done}
use Rattle.std.specs.Prelude.{Bool, cond, not, true, ◌&&◌, List, ℕ, zero, suc, ◌+◌, ◌*◌, eqb, length, Err, Some, None, Option}
use Rattle.assignment.specs.Assignment.{entry}
use Rattle.assignment.specs.BelowPrime.{below_prime_answer}
use Rattle.circuit.specs.Circuit.{row_at}
use Rattle.circuit.specs.Places.{row_count}
use Rattle.circuit.specs.Wires.{wire_count}
use Rattle.circuit.specs.declared.circuits.Circuit.{Circuit}
use Rattle.encoding.specs.Bits.{bit_of_bytes}
use Rattle.refusal.specs.declared.outcome.Refusal.TheVariants.{DigestNot32, DigestWire, Unsatisfied, WireZero, WrongLength}
use Rattle.satisfaction.specs.Lowest.{lowest}

-- the first n places of two sequences are the same
unfoldable pub same : ℕ → (ℕ → ℕ) → (ℕ → ℕ) → Bool
same zero f g = true
same (suc n) f g = same n f g && eqb (f n) (g n)

-- the answer once the rows are judged
abbrev pub after_rows : Option RowNumber → Outcome
after_rows None = done
after_rows (Some k) = Err (Unsatisfied k)

-- an assignment of a circuit and a digest, as far as they are judged before the rows, in the paper's order, behind the refusals of the
-- circuit's own; then `judged`
abbrev pub before_rows : Circuit → List ℕ → List ℕ → Outcome → Outcome
before_rows c digest assignment judged =
    -- "5. The digest that an assignment is held against is not 32 bytes."
    cond (not (eqb (length digest) 32)) (Err DigestNot32)
    -- "6. An assignment of 8-byte entries handed over to be read is not exactly 8 × wires bytes."
    (cond (not (eqb (length assignment) (8 * wire_count c))) (Err WrongLength)
    -- document 02, request 6: "20, an entry of p or more (lowest wire returned), directly after 6 and so before 7"
    (below_prime_answer (wire_count c) assignment
    -- "7. Wire 0 does not read as 1."
    (cond (not (eqb (entry assignment 0) 1)) (Err WireZero)
    -- "8. A digest wire does not read as its bit of the digest."
    (cond (not (same 256 (λ k. entry assignment (1 + k)) (bit_of_bytes digest))) (Err DigestWire) judged))))

-- the check of an assignment of a circuit against a digest: "9. A row is not satisfied; the lowest row that is not satisfied is returned
-- with it."
unfoldable pub circuit_check : Circuit → List ℕ → List ℕ → Outcome
circuit_check c digest assignment =
    before_rows c digest assignment (after_rows (lowest (entry assignment) (row_at c) 0 (row_count c)))
