-- What signed coefficients left as it was, for every circuit and row (document 02, request 7).
use Rattle.std.specs.Prelude.{ℕ, ◌<◌}
use Rattle.circuit.specs.Circuit.{row_at}
use Rattle.circuit.specs.Places.{row_count}
use Rattle.circuit.specs.Ranges.{Allowed}
use Rattle.circuit.specs.declared.circuits.Circuit.{Circuit}
use Rattle.forms.specs.Former.{IsFormer}
use Rattle.forms.specs.Rows.{terms}
use Rattle.forms.specs.Shape.{All}

-- each term's coefficient is, modulo p, the one that it had
abbrev pub CoefficientsUnaltered : Type 0
CoefficientsUnaltered = (c : Circuit) → Allowed c → (k : ℕ) → k < row_count c → All IsFormer (terms (row_at c k))
