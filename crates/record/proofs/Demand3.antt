-- Demand 3, an instance of the law of exact acceptance. The witness is a record in its bytes: its wires are the layout's, its digest is its SM3,
-- and it is read off the record wires and packed into bytes. The rows hold exactly where the wires are those of the record that is read off.
use Rattle.refusal.specs.Refusals.{done}
use mathlib.Core.List.{List}
use mathlib.Core.Path.{◌≡◌, ◌∙◌, subst, sym}
use Prim.Native.Nat.{ℕ, ◌+◌, ◌*◌, ◌<◌, ◌≤◌}
use borrow.Author.Tests.{le-ltb}
use lib.ListN.{length}
use Rattle.acceptance.proofs.Exact as law
use Rattle.acceptance.proofs.Exact.{Layout}
use Rattle.circuit.proofs.exact.FrameWires.{frame_digest, frame_one}
use Rattle.circuit.specs.Wires.{wire_count}
use Rattle.circuit.specs.declared.circuits.Circuit.TheVariants.{Record}
use Rattle.encoding.proofs.Bits.{bit_of_bytes_lt}
use Rattle.encoding.specs.Bits.{bit_of_bytes}
use Rattle.encoding.specs.Packed.{packed_bytes}
use Rattle.forms.proofs.exact.Runs.{Agree}
use Rattle.limits.proofs.handed.Asked.{handed_passes}
use Rattle.limits.specs.Handed.{IsRecord}
use Rattle.limits.specs.Limit.{Allows}
use Rattle.record.proofs.Accepted.{accepted_iff}
use Rattle.record.proofs.DigestBits.{bit_of-digest, digest_bytes_lem, length-digest}
use Rattle.record.proofs.exact.Record.{packed_off, packed_record, read_off, wires_congruent}
use Rattle.record.proofs.exact.Whole.{circuit, some_record}
use Rattle.record.proofs.exact.WireBits.{wire_lt}
use Rattle.record.specs.Check.{check_answer}
use Rattle.record.specs.Demand3.{Demand3}
use Rattle.record.specs.Layout.{record_wire, wire_of}
use Rattle.record.specs.Produce.{assignment_of, produce_answer}
use Rattle.sm3.specs.Message.{digest_bytes}

-- wire 0 of a record, and its digest wires
pub record_one : (n : ℕ) (r : ℕ → ℕ) → wire_of n r 0 ≡ 1
unfolding wire_of
record_one n r = frame_one _ _

pub record_digest : (n : ℕ) (r : List ℕ) (k : ℕ) → k < 256 → wire_of n (bit_of_bytes r) (1 + k) ≡ bit_of_bytes (digest_bytes n r) k
unfolding wire_of
record_digest n r k l = frame_digest _ _ k l ∙ sym (bit_of-digest n r k l)

pub record_layout : (n : ℕ)
    → Layout (Record n) (IsRecord n) (λ r. wire_of n (bit_of_bytes r)) (digest_bytes n) (λ a. packed_bytes n (read_off a)) n record_wire
record_layout n =
    record {
      bits = λ r is. wire_lt n (bit_of_bytes r) (λ k l. bit_of_bytes_lt r k);
      one = λ r. record_one n (bit_of_bytes r);
      digest-length = length-digest n;
      digest_bytes_lem = digest_bytes_lem n;
      digest-wires = record_digest n;
      read_congruent = packed_off n;
      sound =
          λ a J holds. (
            (packed_record n a).0,
            subst (Agree a 0 (wire_count (Record n))) (wires_congruent n _ _ (packed_record n a).1) ((circuit n a J).0 holds),
          );
      complete = λ a J r is agree. (some_record n a J).1 (bit_of_bytes r, λ k l. bit_of_bytes_lt r k, agree);
    }

-- a record that the limit allows is not refused where there is room
not_refused : (l n : ℕ) (r : List ℕ) (room : ℕ) → Allows l n → IsRecord n r → 8 * wire_count (Record n) ≤ room → produce_answer l n r room ≡ done
not_refused l n r room allowed is fits = handed_passes n r l _ allowed is ∙ rw (le-ltb room (8 * wire_count (Record n)) fits)

pub demand3 : Demand3
unfolding assignment_of
demand3 =
    record {
      unique =
          λ l₁ l₂ n d₁ d₂ a₁ a₂ b₁ b₂ h₁ h₂.
          law.unique (record_layout n) ((accepted_iff l₁ n d₁ a₁).0 h₁).1 ((accepted_iff l₂ n d₂ a₂).0 h₂).1 b₁ b₂;
      exact = λ l n d a allowed. law.exact (record_layout n) (check_answer l n) (accepted_iff l n) allowed d a;
      produced =
          λ l n r out allowed is room.
          law.produced (record_layout n) (check_answer l n) (accepted_iff l n) allowed r is out _ (not_refused l n r (length out) allowed is room);
    }
