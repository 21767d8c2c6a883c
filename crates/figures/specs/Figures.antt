-- The worked figures that document 01 marks P, one table: what the definitions give, beside the paper's figure. Lengths are in
-- bits, the unit that document 02's request 2 gives every figure. The definitions are the ones that the contracts cite.
use Rattle.std.specs.Prelude.{ℕ, ◌+◌, ◌-◌, ◌*◌, ◌^◌, List, [], ◌∷◌, ◌++◌, pos, slice_index_or}
use Rattle.assignment.specs.BelowPrime.{below_prime_answer}
use Rattle.circuit.specs.declared.circuits.Circuit.TheVariants.{Axles, Record}
use Rattle.limits.specs.Blocks.{blocks}
use Rattle.limits.specs.Limit.{our_limit, partner_limit}
use Rattle.record.specs.Check.{check_answer}
use Rattle.record.specs.Produce.{produce_answer}
use Rattle.circuit.specs.Wires.{wire_count}
use Rattle.circuit.specs.Places.{row_count}
use Rattle.circuit.specs.GivenRow.{row_bytes, row_number}
use Rattle.record.specs.RowAnswer.{row_answer}
use Rattle.encoding.specs.Bytes.{from_least_first, least_first, twos_complement}
use Rattle.encoding.specs.Packed.{packed_length}
use Rattle.field.specs.Field.{p, residue}
use Rattle.forms.specs.Coefficients.{signed}
use Rattle.listing.specs.Request.{request_number, request_of}
use Rattle.listing.specs.declared.request.Front.TheVariants.{Length}
use Rattle.refusal.specs.Refusals.{outcome_number, outcome_values, Outcome, done}
use Rattle.sm3.specs.Digest.{digest_answer}
use Rattle.sm3.specs.Sm3.{P0, P1, rotated_constant}
use Rattle.text.specs.Text.{ascii}

pub record Figure : Type 0 where
  pub computed : ℕ
  pub stated : ℕ

infix 30 ◌is◌
abbrev pub ◌is◌ : ℕ → ℕ → Figure
c is s = record { computed = c; stated = s }

-- what the test of refusal 20, which every check and packing share, makes of three entries, of which the last is v
abbrev pub of_three : ℕ → Outcome
of_three v = below_prime_answer 3 (least_first 8 1 ++ least_first 8 (p - 1) ++ least_first 8 v) done

-- the number that the 8 bytes of the coefficient of a residue k write, the least first, without regard to its sign
abbrev pub coefficient_bytes : ℕ → ℕ
coefficient_bytes k = from_least_first 8 (twos_complement 8 (signed k)) 0

abbrev pub table : List Figure
table =
    -- "L 0 and 55 give 1 block; 56 and 119 give 2; 120 gives 3; 1,015 gives 16": in bits 0 and 440, 448 and 952, 960, 8,120
    (blocks 0 is 1)
    ∷ (blocks 440 is 1)
    ∷ (blocks 448 is 2)
    ∷ (blocks 952 is 2)
    ∷ (blocks 960 is 3)
    ∷ (blocks 8120 is 16)
    -- the longest records of 1, of 2 and of 16 blocks; "8,127 is in range"
    ∷ (blocks 447 is 1)
    ∷ (blocks 959 is 2)
    ∷ (blocks 8127 is 16)
    ∷ (request_number (request_of Length (ascii "8127,0,0\n")) is 0)
    -- "L 1,016 is refusal 2": 8,128 bits, of every operation, the digest, a row, the assignment and the check, and of the program's
    -- line
    ∷ (outcome_number (digest_answer our_limit 8128 (least_first 1016 0) 32) is 2)
    ∷ (row_number (row_answer our_limit 8128 0 row_bytes) is 2)
    ∷ (outcome_number (produce_answer our_limit 8128 (least_first 1016 0) (8 * wire_count (Record 8128))) is 2)
    ∷ (outcome_number (check_answer our_limit 8128 (least_first 32 0) []) is 2)
    ∷ (request_number (request_of Length (ascii "8128,0,0\n")) is 2)
    -- "13, the record's bytes are not the bits over 8 rounded up"; "14, a bit after the last record bit is set": 37 bits have 5
    -- bytes, and the three low bits of the last are spare
    ∷ (packed_length 37 is 5)
    ∷ (outcome_number (digest_answer our_limit 37 (least_first 4 0) 0) is 13)
    ∷ (outcome_number (digest_answer our_limit 37 (least_first 5 (2 ^ 32)) 0) is 14)
    ∷ (outcome_number (digest_answer our_limit 37 (least_first 5 (8 * 2 ^ 32)) 0) is 4)
    ∷ (outcome_number (digest_answer our_limit 37 (least_first 5 (8 * 2 ^ 32)) 32) is 0)
    -- document 02, request 8: "21, a limit outside 1 to 16, before 2"
    ∷ (outcome_number (digest_answer 0 8128 (least_first 1016 0) 32) is 21)
    ∷ (outcome_number (digest_answer 17 0 [] 32) is 21)
    ∷ (row_number (row_answer (2 ^ 32 + 2) 0 0 row_bytes) is 21)
    -- "22, a length that needs more blocks than the limit, directly after 14": 448 bits need two blocks, 960 three
    ∷ (outcome_number (digest_answer 1 447 (least_first 56 0) 32) is 0)
    ∷ (outcome_number (digest_answer 1 448 (least_first 56 0) 32) is 22)
    ∷ (outcome_number (digest_answer partner_limit 959 (least_first 120 0) 32) is 0)
    ∷ (outcome_number (digest_answer partner_limit 960 (least_first 120 0) 0) is 22)
    ∷ (outcome_number (digest_answer partner_limit 960 (least_first 119 0) 0) is 13)
    ∷ (outcome_number (digest_answer partner_limit 961 (least_first 121 (2 ^ 960)) 0) is 14)
    ∷ (outcome_number (digest_answer 1 8128 (least_first 1016 0) 32) is 2)
    ∷ (row_number (row_answer partner_limit 959 65152 row_bytes) is 3)
    ∷ (row_number (row_answer partner_limit 960 65152 0) is 22)
    ∷ (outcome_number (check_answer partner_limit 959 [] []) is 5)
    ∷ (outcome_number (check_answer partner_limit 960 [] []) is 22)
    -- "L 0 has 23,041 wires and 32,832 rows; L 1,015 has 360,961 and 517,632"
    ∷ (wire_count (Record 0) is 23041)
    ∷ (row_count (Record 0) is 32832)
    ∷ (wire_count (Record 8120) is 360961)
    ∷ (row_count (Record 8120) is 517632)
    ∷ (wire_count (Record 8127) is 360961)
    ∷ (row_count (Record 8127) is 517632)
    -- document 02, request 5: "append 22 wires", "append 34 rows"
    ∷ (wire_count (Axles 2 99) is 45591)
    ∷ (row_count (Axles 2 99) is 65186)
    -- "2^60 × 2 reads as 1", as numbers modulo p
    ∷ (residue (pos (2 ^ 60 * 2)) is 1)
    -- document 02, request 7: "A coefficient above (p - 1) / 2 is given minus p: in the row buffer as 8 bytes two's complement": (p - 1) / 2
    -- is given as it is, the residue above it as -(p - 1) / 2, and p - 1 as -1, which is p - 1 modulo p
    ∷ (coefficient_bytes 1152921504606846975 is 1152921504606846975)
    ∷ (coefficient_bytes 1152921504606846976 is 2 ^ 64 - 1152921504606846975)
    ∷ (coefficient_bytes (p - 1) is 0xffffffffffffffff)
    ∷ (residue (signed (p - 1)) is p - 1)
    -- document 02, request 6: "Entries p and 2^64 - 1 stop reading as 0 and 7": they are refusal 20, which names their wire; p - 1 is below
    ∷ (outcome_number (of_three (p - 1)) is 0)
    ∷ (outcome_number (of_three p) is 20)
    ∷ (slice_index_or (outcome_values (of_three p)) 0 0 is 2)
    ∷ (outcome_number (of_three (2 ^ 64 - 1)) is 20)
    ∷ (slice_index_or (outcome_values (of_three (2 ^ 64 - 1))) 0 0 is 2)
    -- "P0(1) = 00020201; P1(1) = 00808001 (hexadecimal)"
    ∷ (P0 1 is 0x00020201)
    ∷ (P1 1 is 0x00808001)
    -- "T turned in round 1 is f3988a32, in 16 is 9d8a7a87, in 32 is 7a879d8a"
    ∷ (rotated_constant 1 is 0xf3988a32)
    ∷ (rotated_constant 16 is 0x9d8a7a87)
    ∷ (rotated_constant 32 is 0x7a879d8a)
    ∷ []
