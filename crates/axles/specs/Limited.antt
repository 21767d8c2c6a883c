-- The caller's limit of the calls with axles (document 02, request 8: "the passage and axle calls two"). A record of 504 bits needs two blocks, so
-- that no call is refused by the limit.
use Rattle.std.specs.Prelude.{List, ◌≡◌, ℕ, length, Err}
use Rattle.axles.specs.Check.{axles_check_answer}
use Rattle.axles.specs.Produce.{axles_produce_answer}
use Rattle.axles.specs.RowAnswer.{axles_row_answer}
use Rattle.circuit.specs.Axles.{axle_bits}
use Rattle.limits.specs.Limit.{allowance, length_answer, limited, partner_limit}
use Rattle.refusal.specs.declared.outcome.Refusal.TheVariants.{WrongRecordLength}

pub record AxlesLimited : Type 0 where
  -- with the tests of limit and length in front, 21, 2 and 22, `row` and `check`, which take neither, answer as they do
  pub row : (lower upper k room : ℕ)
      → limited Err (λ x. x) (allowance partner_limit axle_bits) (axles_row_answer lower upper k room) ≡ axles_row_answer lower upper k room
  pub check : (lower upper : ℕ) (d a : List ℕ)
      → length_answer partner_limit axle_bits (axles_check_answer lower upper d a) ≡ axles_check_answer lower upper d a
  -- request 5: "A record of other than 63 bytes is 13 here."
  pub produce : (lower upper : ℕ) (r : List ℕ) (room : ℕ) → (length r ≡ 63 → ⊥) → axles_produce_answer lower upper r room ≡ Err WrongRecordLength
