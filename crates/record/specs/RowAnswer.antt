-- The answer of `row` and the bytes that it leaves (document 01, "Rows" and "Refusals in checking order"; document 02,
-- request 8).
use Rattle.forms.specs.declared.terms.Counts.{Counts}
use Rattle.refusal.specs.declared.outcome.Refusal.{Refusal}
use Rattle.std.specs.Prelude.{List, ℕ, Err, Result}
use Rattle.circuit.specs.GivenRow.{given_left, given_row}
use Rattle.circuit.specs.declared.circuits.Circuit.TheVariants.{Record}
use Rattle.limits.specs.Limit.{allowance, limited}

-- for a limit of l blocks, row k of a record of n bits and a buffer of `room` bytes: 21, 2 and 22; then 3 and 4, which are those of every
-- circuit
unfoldable pub row_answer : ℕ → ℕ → ℕ → ℕ → Result Counts Refusal
row_answer l n k room = limited Err (λ answer. answer) (allowance l n) (given_row (Record n) k room)

-- what is left in the buffer
abbrev pub row_left : Result Counts Refusal → ℕ → ℕ → List ℕ → List ℕ
row_left r n k out = given_left r (Record n) k out
