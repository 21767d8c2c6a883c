-- The terms of the row's form have different wires in each part.
use Rattle.circuit.proofs.row.SameForm.{form_distinct}
use Rattle.circuit.proofs.row.row_terms.Goals as goal

pub sort-requires : goal.sort-requires
sort-requires c = form_distinct _ c.requires.0 _ c.requires.1 _ _ c.form_at.ensures.0 c.fill.ensures
