-- The papers' number of every refusal and its values (document 01, "Refusals in checking order": "Each returns its number
-- and nothing else unless said; no lent byte changes"), and what an operation leaves in a buffer.
use Rattle.std.specs.Prelude.{List, [], ◌∷◌, ℕ, ⊤, Err, Ok, Result}
use Rattle.refusal.specs.declared.outcome.Refusal.{Refusal}
use Rattle.refusal.specs.declared.outcome.Refusal.TheVariants.{LengthOutOfRange, RowOutOfRange, BufferTooShort, DigestNot32, WrongLength, WireZero, DigestWire, Unsatisfied, EntryNotBit, WrongPackedLength, SpareBit, WrongRecordLength, BitAfterRecord, LineNot63, WrongByte, LaneOrAxlesTooLow, BoundsOutOfRange, NotInBand, EntryNotBelowPrime, LimitOutOfRange, BlocksAboveLimit}

abbrev pub refusal_number : Refusal → ℕ
-- "2. The record length is above" 1,015 bytes, from document 02's request 2 on 8,127 bits
refusal_number LengthOutOfRange = 2
-- "3. The row number is not below the row count"
refusal_number RowOutOfRange = 3
-- "4. The buffer to be written is shorter than .."; from document 02 on "any other written buffer shorter than its result"
refusal_number BufferTooShort = 4
-- "5. The digest that an assignment is held against is not 32 bytes."
refusal_number DigestNot32 = 5
-- "6. An assignment of 8-byte entries handed over to be read is not exactly 8 × wires bytes."
refusal_number WrongLength = 6
-- "7. Wire 0 does not read as 1."
refusal_number WireZero = 7
-- "8. A digest wire does not read as its bit of the digest."
refusal_number DigestWire = 8
-- "9. A row is not satisfied"
refusal_number (Unsatisfied k) = 9
-- document 02, request 1: "10, in packing only, an entry reads neither 0 nor 1"
refusal_number (EntryNotBit w) = 10
-- "11, the packed length is not the wires over 8 rounded up"
refusal_number WrongPackedLength = 11
-- "12, a spare bit is set"
refusal_number SpareBit = 12
-- document 02, request 2: "13, the record's bytes are not the bits over 8 rounded up"
refusal_number WrongRecordLength = 13
-- "14, a bit after the last record bit is set"
refusal_number BitAfterRecord = 14
-- document 02, request 3: "15, not 63 bytes"
refusal_number LineNot63 = 15
-- "16, a byte, or in writing a field's value, that its place does not allow"
refusal_number (WrongByte b) = 16
-- "17, lane 000 or axles below 02"
refusal_number LaneOrAxlesTooLow = 17
-- document 02, request 5: "18, a bound outside 2 to 99 or the lower above the upper"
refusal_number BoundsOutOfRange = 18
-- "19, to the producer, a record that does not meet this": its two bytes are digits, and the axles lie within the bounds
refusal_number NotInBand = 19
-- document 02, request 6: "20, an entry of p or more"
refusal_number (EntryNotBelowPrime w) = 20
-- document 02, request 8: "21, a limit outside 1 to 16"
refusal_number LimitOutOfRange = 21
-- "22, a length that needs more blocks than the limit"
refusal_number BlocksAboveLimit = 22

abbrev pub refusal_values : Refusal → List ℕ
refusal_values LengthOutOfRange = []
refusal_values RowOutOfRange = []
refusal_values BufferTooShort = []
refusal_values DigestNot32 = []
refusal_values WrongLength = []
refusal_values WireZero = []
refusal_values DigestWire = []
-- "the lowest row that is not satisfied is returned with it"
refusal_values (Unsatisfied k) = k.0 ∷ []
-- "lowest wire returned"
refusal_values (EntryNotBit w) = w.0 ∷ []
refusal_values WrongPackedLength = []
refusal_values SpareBit = []
refusal_values WrongRecordLength = []
refusal_values BitAfterRecord = []
refusal_values LineNot63 = []
-- "lowest byte returned, from 0"
refusal_values (WrongByte b) = b.0 ∷ []
refusal_values LaneOrAxlesTooLow = []
refusal_values BoundsOutOfRange = []
refusal_values NotInBand = []
-- "lowest wire returned"
refusal_values (EntryNotBelowPrime w) = w.0 ∷ []
refusal_values LimitOutOfRange = []
refusal_values BlocksAboveLimit = []

-- the answer of an operation that hands nothing back
abbrev pub Outcome : Type 0
Outcome = Result ⊤ Refusal

-- .. that has done what it was asked
abbrev pub done : Outcome
done = Ok tt

-- its number, 0 for no refusal, and its values
abbrev pub outcome_number : Outcome → ℕ
outcome_number (Ok _) = 0
outcome_number (Err r) = refusal_number r

abbrev pub outcome_values : Outcome → List ℕ
outcome_values (Ok _) = []
outcome_values (Err r) = refusal_values r

-- what is left of a lent buffer: `written` where the operation is done; "no lent byte changes" on a refusal
abbrev pub left : Outcome → List ℕ → List ℕ → List ℕ
left (Ok _) written before = written
left (Err r) written before = before
