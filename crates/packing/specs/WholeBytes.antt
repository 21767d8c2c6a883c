-- Records of whole bytes: the answers of requests 1 and 6 for records of L bytes, in their own unit, are what the definitions give for
-- 8 L bits (document 02, request 2).
use Rattle.refusal.specs.Refusals.{done}
use Rattle.std.specs.Prelude.{cond, not, List, ◌≡◌, ℕ, ◌*◌, eqb, ltb, length, Err}
use Rattle.assignment.specs.BelowPrime.{below_prime_answer}
use Rattle.circuit.specs.WholeBytes.{wires_of_bytes}
use Rattle.encoding.specs.Packed.{packed_length}
use Rattle.limits.specs.Limit.{our_limit}
use Rattle.packing.specs.Pack.{bits_answer, pack_answer}
use Rattle.packing.specs.Packed.{unpacked_bytes}
use Rattle.packing.specs.PackedCheck.{packed_check_answer}
use Rattle.packing.specs.Unpack.{packed_answer, unpack_answer}
use Rattle.record.specs.Check.{check_answer}
use Rattle.refusal.specs.declared.outcome.Refusal.TheVariants.{BufferTooShort, LengthOutOfRange, WrongLength}
use Rattle.sm3.specs.WholeBytes.{most_bytes}

pub record WholeBytes : Type 0 where
  -- with our limit: "2. The record length is above 1,015.", 4, 6, 20 and 10
  pub pack : (L : ℕ) (a : List ℕ) (room : ℕ)
      → pack_answer our_limit (8 * L) a room
      ≡ cond (ltb most_bytes L) (Err LengthOutOfRange)
      (cond (ltb room (packed_length (wires_of_bytes L))) (Err BufferTooShort)
      (cond (not (eqb (length a) (8 * wires_of_bytes L))) (Err WrongLength)
      (below_prime_answer (wires_of_bytes L) a (bits_answer (wires_of_bytes L) a))))
  -- 2, 4, 11 and 12
  pub unpack : (L : ℕ) (p : List ℕ) (room : ℕ)
      → unpack_answer our_limit (8 * L) p room
      ≡ cond (ltb most_bytes L) (Err LengthOutOfRange)
      (cond (ltb room (8 * wires_of_bytes L)) (Err BufferTooShort) (packed_answer (wires_of_bytes L) p done))
  -- 2, 11 and 12, and then the answer of document 01's check
  pub check : (L : ℕ) (d p : List ℕ)
      → packed_check_answer (8 * L) d p
      ≡ cond (ltb most_bytes L) (Err LengthOutOfRange)
      (packed_answer (wires_of_bytes L) p (check_answer our_limit (8 * L) d (unpacked_bytes (wires_of_bytes L) p)))
