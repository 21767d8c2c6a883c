-- A record as it is handed over: so many bits, packed into whole bytes (document 02, request 2).
use Rattle.refusal.specs.declared.outcome.Refusal.{Refusal}
use Rattle.refusal.specs.Refusals.{Outcome, done}
use Rattle.std.specs.Prelude.{cond, not, List, ◌≡◌, ℕ, eqb, length, Err, Ok, Result}
use Rattle.encoding.specs.Bytes.{Bytes}
use Rattle.encoding.specs.Packed.{packed_length, spare_bits}
use Rattle.limits.specs.Limit.{allowance, limited}
use Rattle.refusal.specs.declared.outcome.Refusal.TheVariants.{BitAfterRecord, WrongRecordLength}

-- "demand 3's records are bit strings, handed over in bytes that 13 and 14 let pass": r has the bytes of a record of n bits
pub record IsRecord (n : ℕ) (r : List ℕ) : Type 0 where
  pub bytes : Bytes r
  pub size : length r ≡ packed_length n
  pub spare : spare_bits n r ≡ 0

-- the answer of who asks for a record, whichever it is given
abbrev pub outcome_of : {A : Type 0} → Result A Refusal → Outcome
outcome_of (Ok r) = done
outcome_of (Err r) = Err r

-- what is asked of the bytes of a record of n bits, and then the answer `next`
unfoldable pub record_bytes_answer : ℕ → List ℕ → Outcome → Outcome
record_bytes_answer n bytes next =
    -- "13, the record's bytes are not the bits over 8 rounded up, after 2"
    cond (not (eqb (length bytes) (packed_length n))) (Err WrongRecordLength)
    -- "14, a bit after the last record bit is set, after 13"
    (cond (not (eqb (spare_bits n bytes) 0)) (Err BitAfterRecord) next)

-- what is asked of a record of n bits that is handed over in bytes with a limit of l blocks, 21, 2, 13, 14 and 22, and then the answer `next`
unfoldable pub handed_answer : ℕ → ℕ → List ℕ → Outcome → Outcome
handed_answer l n bytes next = limited Err (record_bytes_answer n bytes) (allowance l n) next
