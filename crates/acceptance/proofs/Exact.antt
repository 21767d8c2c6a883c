-- One law of exact acceptance, for every circuit. What a circuit's wires are worked out from is its witness: a record, or one in a band. A valid
-- witness has wires, which are bits, and a digest. Where the rows hold, the witness that is read off the wires is valid and the wires are its
-- own; where the wires are a valid witness's, the rows hold. So an assignment is accepted against a digest exactly where some valid witness
-- has that digest and, byte for byte, that assignment, and it is known by the wires that the witness is read off.
use mathlib.Core.List.{List, ◌++◌}
use mathlib.Core.Logic.{◌↔◌}
use mathlib.Core.Path.{◌≡◌, ◌∙◌, ap, subst, subst₂, sym}
use Prim.Native.Nat.{ℕ, ◌+◌, ◌*◌, ◌<◌}
use native.Mathlib.Nat.{zero-add}
use native.Mathlib.Omega.{arith}
use lib.ListN.{drop, length, take}
use Rattle.acceptance.proofs.Acceptance.{Accepts, Passed, judged_entries}
use Rattle.assignment.proofs.Entries.{bytes_of_entries, entries_front, entry_of_wire, entry-written, length_entries}
use Rattle.assignment.specs.Assignment.{entry, entry_bytes, wire_bytes}
use Rattle.circuit.specs.Circuit.{form_at, row_at}
use Rattle.circuit.specs.Places.{row_count}
use Rattle.circuit.specs.Wires.{wire_count}
use Rattle.circuit.specs.declared.circuits.Circuit.{Circuit}
use Rattle.encoding.proofs.ByteBits.{bytes_ext}
use Rattle.encoding.specs.Bits.{bit_of_bytes}
use Rattle.encoding.specs.Bytes.{Bytes}
use Rattle.forms.proofs.exact.Runs.{Agree, Holds, Judged}
use Rattle.refusal.specs.Refusals.{left, Outcome, done}

-- What the law asks of a circuit's layout: the wires and the digest of a witness, and the witness that is read off wires, of which it asks the
-- n wires `inputs` alone.
pub record Layout {X : Type 0} (C : Circuit) (Valid : X → Type 0) (wires : X → ℕ → ℕ) (digest : X → List ℕ) (read : (ℕ → ℕ) → X) (n : ℕ)
    (inputs : ℕ → ℕ) : Type 0 where
  pub bits : (x : X) → Valid x → (w : ℕ) → wires x w < 2
  pub one : (x : X) → wires x 0 ≡ 1
  pub digest-length : (x : X) → length (digest x) ≡ 32
  pub digest_bytes_lem : (x : X) → Bytes (digest x)
  pub digest-wires : (x : X) (k : ℕ) → k < 256 → wires x (1 + k) ≡ bit_of_bytes (digest x) k
  pub read_congruent : (a b : ℕ → ℕ) → ((k : ℕ) → k < n → a (inputs k) ≡ b (inputs k)) → read a ≡ read b
  pub sound : (a : ℕ → ℕ) → Judged a → Holds a (row_count C) (form_at C) → Valid (read a) × Agree a 0 (wire_count C) (wires (read a))
  pub complete : (a : ℕ → ℕ) → Judged a → (x : X) → Valid x → Agree a 0 (wire_count C) (wires x) → Holds a (row_count C) (form_at C)

module _ {X : Type 0} {C : Circuit} {Valid : X → Type 0} {wires : X → ℕ → ℕ} {digest : X → List ℕ} {read : (ℕ → ℕ) → X} {n : ℕ}
    {inputs : ℕ → ℕ} (L : Layout C Valid wires digest read n inputs) where
  -- the assignment of a witness
  abbrev assigned : X → List ℕ
  assigned x = entry_bytes (wire_count C) (wires x)

  -- A valid witness's assignment is accepted against its digest.
  module _ (x : X) (valid : Valid x) where
    pub assigned-wires : (w : ℕ) → w < wire_count C → entry (assigned x) w ≡ wires x w
    assigned-wires w l = entry-written _ (wires x) w l (omega (arith, L.bits x valid w))

    passed : Passed C (digest x) (assigned x)
    unfolding wire_count
    passed =
        record {
          digest-length = L.digest-length x;
          assignment_length = length_entries _ _;
          below = λ w l. omega (arith, assigned-wires w l, L.bits x valid w);
          one = assigned-wires 0 (omega arith) ∙ L.one x;
          digest-wires = λ k l. assigned-wires (1 + k) (omega arith) ∙ L.digest-wires x k l;
        }

    witness_accepted : Accepts C (digest x) (assigned x)
    unfolding row_at
    witness_accepted =
        record {
          passed = passed;
          satisfied =
              L.complete (entry (assigned x)) (judged_entries passed) x valid
              (λ w l. ap (entry (assigned x)) (zero-add w) ∙ assigned-wires w l);
        }

  -- An accepted assignment is that of the witness that is read off it.
  module _ {d a : List ℕ} (accepts : Accepts C d a) where
    found : Valid (read (entry a)) × Agree (entry a) 0 (wire_count C) (wires (read (entry a)))
    unfolding row_at
    found = L.sound (entry a) (judged_entries accepts.passed) accepts.satisfied

    accepted_wires : (w : ℕ) → w < wire_count C → entry a w ≡ wires (read (entry a)) w
    accepted_wires w l = ap (entry a) (sym (zero-add w)) ∙ found.1 w l

    pub accepted_bits : (w : ℕ) → w < wire_count C → entry a w < 2
    accepted_bits w l = subst (λ x. x < 2) (sym (accepted_wires w l)) (L.bits (read (entry a)) found.0 w)

    accepted_bytes : Bytes a → a ≡ assigned (read (entry a))
    accepted_bytes bytes = bytes_of_entries _ _ a bytes accepts.passed.assignment_length accepted_wires

    accepted_digest : Bytes d → digest (read (entry a)) ≡ d
    unfolding wire_count
    accepted_digest bytes =
        let x : X = read (entry a) in
        bytes_ext (digest x) d (L.digest-length x ∙ sym accepts.passed.digest-length) (L.digest_bytes_lem x) bytes
        (λ k l.
        let below : k < 256 = omega (arith, L.digest-length x) in
        sym (L.digest-wires x k below) ∙ sym (accepted_wires (1 + k) (omega arith)) ∙ accepts.passed.digest-wires k below)

  -- accepted assignments with the same bytes on the wires that a witness is read off are the same
  pub unique : {d₁ d₂ a₁ a₂ : List ℕ} → Accepts C d₁ a₁ → Accepts C d₂ a₂ → Bytes a₁ → Bytes a₂
      → ((k : ℕ) → k < n → wire_bytes a₁ (inputs k) ≡ wire_bytes a₂ (inputs k)) → a₁ ≡ a₂
  unique {d₁} {d₂} {a₁} {a₂} h₁ h₂ b₁ b₂ same =
      accepted_bytes h₁ b₁
      ∙ ap assigned (L.read_congruent (entry a₁) (entry a₂) (λ k l. entry_of_wire a₁ a₂ (inputs k) (same k l)))
      ∙ sym (accepted_bytes h₂ b₂)

  -- A check that is the circuit's behind a condition of its own.
  module _ {Asked : Type 0} (answer : List ℕ → List ℕ → Outcome) (iff : (d a : List ℕ) → (answer d a ≡ done) ↔ (Asked × Accepts C d a))
      (asked : Asked) where
    -- accepted exactly where some valid witness has this digest and this assignment
    pub exact : (d a : List ℕ) → Bytes d → Bytes a → ((answer d a ≡ done) ↔ ((x : X) × Valid x × (digest x ≡ d) × (a ≡ assigned x)))
    exact d a digests bytes = (
      λ h.
          let accepts = ((iff d a).0 h).1 in
          (read (entry a), (found accepts).0, accepted_digest accepts digests, accepted_bytes accepts bytes),
      λ (x, valid, same, whole). subst₂ (λ d a. answer d a ≡ done) same (sym whole) ((iff (digest x) (assigned x)).1 (asked, witness_accepted x valid)),
    )

    -- what a producer leaves of a valid witness is accepted against its digest
    pub produced : (x : X) → Valid x → (out : List ℕ) (reply : Outcome) → reply ≡ done
        → answer (digest x) (take (8 * wire_count C) (left reply (assigned x ++ drop (8 * wire_count C) out) out)) ≡ done
    produced x valid out reply answered =
        subst (λ reply. answer (digest x) (take (8 * wire_count C) (left reply (assigned x ++ drop (8 * wire_count C) out) out)) ≡ done) (sym answered)
        (subst (λ a. answer (digest x) a ≡ done) (sym (entries_front (wire_count C) (wires x) _))
        ((iff (digest x) (assigned x)).1 (asked, witness_accepted x valid)))
