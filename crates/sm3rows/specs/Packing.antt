-- The answer of `row` toward a C host: one 64-bit number (docs/HOST.md). The other operations' is `packed_outcome` of refusal.
use Rattle.forms.specs.declared.terms.Counts.{Counts}
use Rattle.refusal.specs.declared.outcome.Refusal.{Refusal}
use Rattle.std.specs.Prelude.{ℕ, Result}
use Rattle.circuit.specs.GivenRow.{row_number, row_values}
use Rattle.refusal.specs.Packing.{packed}

abbrev pub packed_row : Result Counts Refusal → ℕ
packed_row r = packed (row_number r) (row_values r)
