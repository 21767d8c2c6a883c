-- What a caller's limit changes in the answers of `row`, `produce` and `check`, and what it does not (document 02, request 8). The rows and
-- wires of a length, `row_at`, `row_count`, `wire_count`, `wire_of`, and its assignments, `assignment_of`, take no limit.
use Rattle.std.specs.Prelude.{List, [], ◌≡◌, ℕ, length, Err}
use Rattle.encoding.specs.Packed.{packed_length, spare_bits}
use Rattle.limits.specs.Limited.{Limited}
use Rattle.record.specs.Check.{check_answer}
use Rattle.record.specs.Produce.{produce_answer, produce_left}
use Rattle.record.specs.RowAnswer.{row_answer, row_left}

pub record RecordLimited : Type 0 where
  pub row : (n k : ℕ) (out : List ℕ)
      → Limited Err n (Unit {0}) (λ l. row_answer l n k (length out)) (λ l. row_left (row_answer l n k (length out)) n k out)
  -- 13 and 14 are asked of the record's bytes
  pub produce : (n : ℕ) (bytes out : List ℕ)
      → Limited Err n ((length bytes ≡ packed_length n) × (spare_bits n bytes ≡ 0)) (λ l. produce_answer l n bytes (length out))
      (λ l. produce_left (produce_answer l n bytes (length out)) n bytes out)
  -- the check writes no byte
  pub check : (n : ℕ) (d a : List ℕ) → Limited Err n (Unit {0}) (λ l. check_answer l n d a) (λ l. [])
