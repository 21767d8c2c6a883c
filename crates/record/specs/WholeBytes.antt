-- Records of whole bytes: what document 01 says of the wires and answers of a record of L bytes, in its own unit, is what the
-- definitions give for 8 L bits (document 02, request 2).
use Rattle.refusal.specs.Refusals.{done}
use Rattle.std.specs.Prelude.{cond, not, List, ◌≡◌, ℕ, ◌+◌, ◌*◌, eqb, leb, ltb, length, Err}
use Rattle.assignment.specs.Assignment.{entry}
use Rattle.assignment.specs.BelowPrime.{below_prime_answer}
use Rattle.block.specs.MessageWires.{message_wires}
use Rattle.circuit.specs.Circuit.{row_at}
use Rattle.circuit.specs.GivenRow.{counted}
use Rattle.circuit.specs.WholeBytes.{rows_of_bytes, wires_of_bytes}
use Rattle.circuit.specs.Wires.{frame_wires}
use Rattle.circuit.specs.declared.circuits.Circuit.TheVariants.{Record}
use Rattle.encoding.specs.Bits.{bit_of_bytes}
use Rattle.limits.specs.Limit.{our_limit}
use Rattle.record.specs.Check.{check_answer}
use Rattle.record.specs.Layout.{wire_of}
use Rattle.record.specs.Produce.{produce_answer}
use Rattle.record.specs.RowAnswer.{row_answer}
use Rattle.refusal.specs.declared.outcome.Refusal.TheVariants.{BufferTooShort, DigestNot32, DigestWire, LengthOutOfRange, RowOutOfRange, WireZero, WrongLength}
use Rattle.acceptance.specs.Check.{after_rows, same}
use Rattle.satisfaction.specs.Lowest.{lowest}
use Rattle.sm3.specs.Message.{chaining_value}
use Rattle.sm3.specs.WholeBytes.{blocks_of_bytes, most_bytes, padded_bytes}

pub record WholeBytes : Type 0 where
  -- "Digest wires, start wires and block bits are the bits of the digest, the start words and the message": of the padded bytes
  pub wires : (r : List ℕ)
      → wire_of (8 * length r) (bit_of_bytes r)
      ≡ frame_wires (chaining_value (bit_of_bytes (padded_bytes r)) (blocks_of_bytes (length r))) (message_wires (bit_of_bytes (padded_bytes r)))
  -- "2. The record length is above 1,015." "3. The row number is not below the row count." "4. The buffer to be written is shorter
  -- than .. 1,956 for a row"
  pub row : (L k room : ℕ)
      → row_answer our_limit (8 * L) k room
      ≡ cond (ltb most_bytes L) (Err LengthOutOfRange)
      (cond (leb (rows_of_bytes L) k) (Err RowOutOfRange)
      (cond (ltb room 1956) (Err BufferTooShort)
      (counted (row_at (Record (8 * L)) k))))
  -- ".. or 8 × wires for an assignment"
  pub produce : (r : List ℕ) (room : ℕ)
      → produce_answer our_limit (8 * length r) r room
      ≡ cond (ltb most_bytes (length r)) (Err LengthOutOfRange)
      (cond (ltb room (8 * wires_of_bytes (length r))) (Err BufferTooShort) done)
  -- "5. The digest .. is not 32 bytes." "6. An assignment .. is not exactly 8 × wires bytes." "20, an entry of p or more" "7. Wire 0
  -- does not read as 1." "8. A digest wire does not read as its bit of the digest." "9. A row is not satisfied"
  pub check : (L : ℕ) (d a : List ℕ)
      → check_answer our_limit (8 * L) d a
      ≡ cond (ltb most_bytes L) (Err LengthOutOfRange)
      (cond (not (eqb (length d) 32)) (Err DigestNot32)
      (cond (not (eqb (length a) (8 * wires_of_bytes L))) (Err WrongLength)
      (below_prime_answer (wires_of_bytes L) a
      (cond (not (eqb (entry a 0) 1)) (Err WireZero)
      (cond (not (same 256 (λ k. entry a (1 + k)) (bit_of_bytes d))) (Err DigestWire)
      (after_rows (lowest (entry a) (row_at (Record (8 * L))) 0 (rows_of_bytes L))))))))
