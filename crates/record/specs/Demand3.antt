-- Demand 3: "Acceptance is exact, against assignments that somebody else composes" (document 01, "The words of demand 3";
-- document 02, request 2: "The acceptance rule now ranges over bit strings"; request 6: "Agreement of wires, and acceptance of a stranger's
-- work, become equality of bytes"; request 8: "Demand 3's lengths and records in range are from here those that the named limit .. allows").
-- Everything is said of raw bytes, as they are lent, and of the definitions that the contracts of
-- `check`, `produce` and `digest` cite.
use Rattle.refusal.specs.Refusals.{done}
use Rattle.std.specs.Prelude.{List, ◌↔◌, ◌≡◌, ℕ, ◌*◌, ◌<◌, ◌≤◌, length, take}
use Rattle.assignment.specs.Assignment.{wire_bytes}
use Rattle.circuit.specs.Wires.{wire_count}
use Rattle.circuit.specs.declared.circuits.Circuit.TheVariants.{Record}
use Rattle.encoding.specs.Bits.{bit_of_bytes}
use Rattle.encoding.specs.Bytes.{Bytes}
use Rattle.limits.specs.Handed.{IsRecord}
use Rattle.limits.specs.Limit.{Allows}
use Rattle.record.specs.Check.{check_answer}
use Rattle.record.specs.Layout.{record_wire}
use Rattle.record.specs.Produce.{assignment_of, produce_answer, produce_left}
use Rattle.sm3.specs.Message.{digest_bytes}

-- "An assignment is accepted for a length against a digest when the check of these three returns no refusal": with a limit of l blocks
abbrev pub IsAccepted : ℕ → ℕ → List ℕ → List ℕ → Type 0
IsAccepted l n d a = check_answer l n d a ≡ done

pub record Demand3 : Type 0 where
  -- "accepted assignments that agree on the record wires agree everywhere": those that have the same bytes there are the same, also where they
  -- are accepted with different limits
  pub unique : (l₁ l₂ n : ℕ) (d₁ d₂ a₁ a₂ : List ℕ) → Bytes a₁ → Bytes a₂ → IsAccepted l₁ n d₁ a₁ → IsAccepted l₂ n d₂ a₂
      → ((k : ℕ) → k < n → wire_bytes a₁ (record_wire k) ≡ wire_bytes a₂ (record_wire k)) → a₁ ≡ a₂
  -- "accepted against a digest exactly when some record of that length has this digest and these wires": byte for byte its assignment
  pub exact : (l n : ℕ) (d a : List ℕ) → Allows l n → Bytes d → Bytes a
      → (IsAccepted l n d a ↔ ((r : List ℕ) × IsRecord n r × (digest_bytes n r ≡ d) × (a ≡ assignment_of n (bit_of_bytes r))))
  -- "our producer's is always accepted"
  pub produced : (l n : ℕ) (r out : List ℕ) → Allows l n → IsRecord n r → 8 * wire_count (Record n) ≤ length out
      → IsAccepted l n (digest_bytes n r) (take (8 * wire_count (Record n)) (produce_left (produce_answer l n r (length out)) n r out))
