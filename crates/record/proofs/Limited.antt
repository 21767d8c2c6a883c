-- What follows the tests of a limit and a length is none of their refusals, and `produce` asks the record's bytes before 22.
use Rattle.std.specs.Prelude.{Err}
use mathlib.Core.Bool.{cond}
use mathlib.Core.List.{List, []}
use mathlib.Core.Path.{refl}
use Prim.Native.Nat.{ℕ, ◌*◌}
use lib.Dec.{leb, ltb}
use lib.ListN.{length}
use Rattle.circuit.specs.GivenRow.{counted, given_row, row_bytes, row_number}
use Rattle.circuit.specs.Places.{row_count}
use Rattle.circuit.specs.Wires.{wire_count}
use Rattle.circuit.specs.declared.circuits.Circuit.TheVariants.{Record}
use Rattle.circuit.specs.declared.circuits.Circuit.{Circuit}
use Rattle.limits.proofs.Limited.{Other, asks_nothing, limited_operation, other_number, room_other}
use Rattle.limits.proofs.handed.Asked.{asks_bytes}
use Rattle.limits.specs.Handed.{handed_answer, record_bytes_answer}
use Rattle.limits.specs.Limit.{length_answer}
use Rattle.record.specs.Check.{check_answer}
use Rattle.record.specs.Limited.{RecordLimited}
use Rattle.record.specs.Produce.{produce_left}
use Rattle.record.specs.RowAnswer.{row_answer, row_left}
use Rattle.refusal.proofs.Small.{tested}
use Rattle.refusal.specs.Refusals.{outcome_number, done}
use Rattle.refusal.specs.declared.outcome.Refusal.TheVariants.{BufferTooShort}
use Rattle.acceptance.proofs.circuit_check.Answers.{check-holds}
use Rattle.acceptance.specs.Check.{circuit_check}

given_other : (C : Circuit) (k room : ℕ) → Other (row_number (given_row C k room))
unfolding given_row counted
given_other C k room =
    tested (λ r. Other (row_number r)) (leb (row_count C) k) (other_number 3 refl refl refl)
    (λ _. tested (λ r. Other (row_number r)) (ltb room row_bytes) (other_number 4 refl refl refl) (λ _. other_number 0 refl refl refl))

check_other : (C : Circuit) (d a : List ℕ) → Other (outcome_number (circuit_check C d a))
check_other C d a =
    check-holds (λ o. Other (outcome_number o)) C d a (other_number 5 refl refl refl) (other_number 6 refl refl refl)
    (λ w l. other_number 20 refl refl refl) (other_number 7 refl refl refl) (other_number 8 refl refl refl)
    (λ k l. other_number 9 refl refl refl) (other_number 0 refl refl refl)

pub record_limited : RecordLimited
unfolding row_answer handed_answer check_answer length_answer
record_limited =
    record {
      row =
          λ n k out.
          limited_operation Err row_number (λ r. refl) n (λ x. x) (asks_nothing row_number) (given_row (Record n) k (length out))
          (given_other (Record n) k (length out)) (λ answer. row_left answer n k out);
      produce =
          λ n bytes out.
          let wanting = ltb (length out) (8 * wire_count (Record n)) in
          limited_operation Err outcome_number (λ r. refl) n (record_bytes_answer n bytes) (asks_bytes n bytes)
          (cond wanting (Err BufferTooShort) done) (room_other wanting) (λ answer. produce_left answer n bytes out);
      check =
          λ n d a.
          limited_operation Err outcome_number (λ r. refl) n (λ x. x) (asks_nothing outcome_number) (circuit_check (Record n) d a)
          (check_other (Record n) d a) (λ answer. []);
    }
