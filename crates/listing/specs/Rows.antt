-- What `rows` prints of a row (document 01, "What `rows` prints"): `row,part,wire,coefficient`.
use Rattle.std.specs.Prelude.{List, [], ◌∷◌, ◌++◌, ℕ, ◌*◌, ℤ}
use Rattle.circuit.specs.Circuit.{row_at}
use Rattle.circuit.specs.declared.circuits.Circuit.{Circuit}
use Rattle.forms.specs.Coefficients.{coefficient}
use Rattle.forms.specs.Shape.{most_terms}
use Rattle.forms.specs.declared.form.Term.{Term}
use Rattle.text.specs.Decimal.{field, signed_field}
use Rattle.text.specs.Text.{comma, line_feed}

-- "then a line a term": its row, part, wire and coefficient
unfoldable pub term_line : ℕ → ℕ → ℕ → ℤ → List ℕ
term_line row part wire z = field row comma ++ (part ∷ comma ∷ []) ++ field wire comma ++ signed_field z line_feed

unfoldable pub part_lines : ℕ → ℕ → List Term → List ℕ
part_lines row part [] = []
part_lines row part (t ∷ ts) = term_line row part t.wire.0 (coefficient t) ++ part_lines row part ts

-- the lines of row k of a circuit: the terms of A, of B and of C
unfoldable pub row_lines : Circuit → ℕ → List ℕ
row_lines c k = part_lines k 65 (row_at c k).A ++ part_lines k 66 (row_at c k).B ++ part_lines k 67 (row_at c k).C

-- how many bytes the line of a term takes at most, and the lines of a row
abbrev pub line_room : ℕ
line_room = 66

abbrev pub row_room : ℕ
row_room = most_terms * line_room
