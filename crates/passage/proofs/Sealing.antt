-- A line that is not refused is a record of 504 bits, and it fills its bytes. So where both buffers are long enough neither the digest nor
-- the producer refuses, and `seal` answers as they do.
use Rattle.refusal.specs.Refusals.{Outcome, done}
use Rattle.std.specs.Prelude.{Err}
use mathlib.Core.List.{List}
use mathlib.Core.Path.{◌≡◌, ◌∙◌, refl, sym}
use Prim.Native.Nat.{ℕ, ◌*◌, ◌<◌, ◌≤◌}
use native.Mathlib.Omega.{arith}
use borrow.Author.Tests.{eq-eqb, le-ltb, lt-ltb}
use lib.ListN.{length}
use Rattle.circuit.specs.Wires.{wire_count}
use Rattle.circuit.specs.declared.circuits.Circuit.TheVariants.{Record}
use Rattle.encoding.specs.Bits.{number}
use Rattle.encoding.specs.Bytes.{Bytes}
use Rattle.encoding.specs.Packed.{spare_bits}
use Rattle.limits.specs.Blocks.{blocks}
use Rattle.limits.specs.Handed.{IsRecord, handed_answer, record_bytes_answer}
use Rattle.limits.specs.Limit.{Allows, allowance, partner_limit}
use Rattle.passage.proofs.Answers.{line_right}
use Rattle.passage.specs.Format.{line_length}
use Rattle.passage.specs.Read.{line_answer}
use Rattle.passage.specs.Seal.{line_bits, seal_answer}
use Rattle.record.specs.Produce.{produce_answer}
use Rattle.refusal.specs.declared.outcome.Refusal.TheVariants.{BufferTooShort}
use Rattle.refusal.specs.declared.outcome.Refusal.{Refusal}
use Rattle.sm3.specs.Digest.{digest_answer}

-- 8 bytes a wire
pub assignment_bytes : 8 * wire_count (Record line_bits) ≡ 364552
unfolding wire_count blocks
assignment_bytes = refl

pub line_record : (s : List ℕ) → Bytes s → length s ≡ line_length → IsRecord line_bits s
unfolding spare_bits number
line_record s bytes long = record { bytes = bytes; size = long; spare = refl }

-- the partner's limit allows it
pub line_allowed : Allows partner_limit line_bits
unfolding blocks
line_allowed = record { limit = (omega arith, omega arith); fits = omega arith }

handed_line : (s : List ℕ) (more : Outcome) → length s ≡ line_length → handed_answer partner_limit line_bits s more ≡ more
unfolding handed_answer allowance blocks record_bytes_answer spare_bits number
handed_line s more long = simp (eq-eqb (length s) line_length long)

pub line_digested : (s : List ℕ) (room : ℕ) → length s ≡ line_length → 32 ≤ room → digest_answer partner_limit line_bits s room ≡ done
line_digested s room long enough = handed_line s _ long ∙ simp (le-ltb room 32 enough)

pub line_produced : (s : List ℕ) (room : ℕ) → length s ≡ line_length → 8 * wire_count (Record line_bits) ≤ room
    → produce_answer partner_limit line_bits s room ≡ done
line_produced s room long enough = handed_line s _ long ∙ simp (le-ltb room (8 * wire_count (Record line_bits)) enough)

-- .. so of a line that is not refused neither is
pub right_digested : (s : List ℕ) (room : ℕ) → line_answer s ≡ done → 32 ≤ room → digest_answer partner_limit line_bits s room ≡ done
right_digested s room right enough = line_digested s room ((line_right s).0 right).0 enough

pub right_produced : (s : List ℕ) (room : ℕ) → line_answer s ≡ done → 8 * wire_count (Record line_bits) ≤ room
    → produce_answer partner_limit line_bits s room ≡ done
right_produced s room right enough = line_produced s room ((line_right s).0 right).0 enough

module _ (s : List ℕ) (digestRoom assignmentRoom : ℕ) where
  pub seal_refused : (r : Refusal) → line_answer s ≡ Err r → seal_answer s digestRoom assignmentRoom ≡ Err r
  unfolding seal_answer
  seal_refused r e = simp e

  module _ (right : line_answer s ≡ done) where
    pub digest_short : digestRoom < 32 → seal_answer s digestRoom assignmentRoom ≡ Err BufferTooShort
    unfolding seal_answer
    digest_short short = simp (right, lt-ltb digestRoom 32 short)

    module _ (enough : 32 ≤ digestRoom) where
      -- past both the producer decides
      pub seal_produced : seal_answer s digestRoom assignmentRoom ≡ produce_answer partner_limit line_bits s assignmentRoom
      unfolding seal_answer
      seal_produced = simp (right, le-ltb digestRoom 32 enough) (sym (handed_line s _ ((line_right s).0 right).0))

      pub assignment_short : assignmentRoom < 8 * wire_count (Record line_bits) → seal_answer s digestRoom assignmentRoom ≡ Err BufferTooShort
      unfolding seal_answer
      assignment_short short = simp (right, le-ltb digestRoom 32 enough, lt-ltb assignmentRoom (8 * wire_count (Record line_bits)) short)
