-- A line that is sealed is a record of 504 bits, and what `seal` leaves is what digest and producer leave of it; so demand 3's last
-- sentence says that it is accepted.
use Rattle.refusal.specs.Refusals.{done}
use mathlib.Core.List.{List}
use mathlib.Core.Path.{◌≡◌, ◌∙◌, ap, sym}
use Prim.Native.Nat.{ℕ, ◌*◌, ◌≤◌}
use borrow.Author.Tests.{ltb-false}
use lib.Dec.{ltb}
use lib.ListN.{drop, length, take}
use lib.Seq.{take_at}
use Rattle.circuit.specs.Wires.{wire_count}
use Rattle.circuit.specs.declared.circuits.Circuit.TheVariants.{Record}
use Rattle.limits.specs.Limit.{partner_limit}
use Rattle.passage.proofs.Answers.{line_right}
use Rattle.passage.proofs.Next.{neither, next_done}
use Rattle.passage.proofs.Sealing.{line_allowed, line_produced, line_record}
use Rattle.passage.specs.Read.{line_answer}
use Rattle.passage.specs.Seal.{assignment_of_line, check_line_answer, digest_of_line, line_bits, seal_answer}
use Rattle.passage.specs.Sealed.{SealedAccepted}
use Rattle.record.proofs.Demand3.{demand3}
use Rattle.record.proofs.DigestBits.{length-digest}
use Rattle.record.specs.Produce.{produce_answer, produce_left}
use Rattle.refusal.specs.declared.outcome.Refusal.TheVariants.{BufferTooShort}
use Rattle.sm3.specs.Message.{digest_bytes}

-- what a sealed line and its buffers are
record Sealed (s : List ℕ) (d a : ℕ) : Type 0 where
  long : length s ≡ 63
  digest-room : 32 ≤ d
  assignment_room : 8 * wire_count (Record line_bits) ≤ a

sealed_done : (s : List ℕ) (d a : ℕ) → seal_answer s d a ≡ done → Sealed s d a
unfolding seal_answer
sealed_done s d a e =
    let told = (next_done (line_answer s) _).0 e in
    let rooms = neither (ltb d 32) (ltb a (8 * wire_count (Record line_bits))) BufferTooShort told.1 in
    record {
      long = ((line_right s).0 told.0).0;
      digest-room = ltb-false d 32 rooms.0;
      assignment_room = ltb-false a (8 * wire_count (Record line_bits)) rooms.1;
    }

pub sealed_accepted : SealedAccepted
sealed_accepted s d a bytes e =
    let sealed = sealed_done s (length d) (length a) e in
    let digest : take 32 (digest_of_line (seal_answer s (length d) (length a)) s d) ≡ digest_bytes line_bits s =
    ap (λ r. take 32 (digest_of_line r s d)) e ∙ take_at (digest_bytes line_bits s) (drop 32 d) 32 (length-digest line_bits s) in
    let wires : assignment_of_line (seal_answer s (length d) (length a)) s a ≡ produce_left (produce_answer partner_limit line_bits s (length a)) line_bits s a =
    ap (λ r. assignment_of_line r s a) (e ∙ sym (line_produced s (length a) sealed.long sealed.assignment_room)) in
    ap (λ t. check_line_answer t (take (8 * wire_count (Record line_bits)) (assignment_of_line (seal_answer s (length d) (length a)) s a))) digest
    ∙ ap (λ l. check_line_answer (digest_bytes line_bits s) (take (8 * wire_count (Record line_bits)) l)) wires
    ∙ demand3.produced partner_limit line_bits s a line_allowed (line_record s bytes sealed.long) sealed.assignment_room
