-- Wj and W'j are read off the expansion.
use Rattle.sm3.specs.Sm3.{w_prime}
use Rattle.assignment.proofs.values.round_values.Goals as goal

pub returns : goal.returns
unfolding w_prime
returns c = c.values_of.ensures
