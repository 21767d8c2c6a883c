-- Writing an entry keeps the length, so each wire up to the last still has its 8 bytes.
use Rattle.assignment.specs.Assignment.{entry}
use borrow.Author.Rules.{rules}
use Rattle.trial.proofs.changes.add_p.Goals as goal

pub overflow_add-v : goal.overflow_add-v
unfolding entry
overflow_add-v c = search rules
