-- An entry is the number that its bytes write.
use Rattle.assignment.specs.Assignment.{entry}
use Rattle.assignment.proofs.entry.read.Goals as goal

pub returns : goal.returns
unfolding entry
returns c = c.eight_bytes.ensures
