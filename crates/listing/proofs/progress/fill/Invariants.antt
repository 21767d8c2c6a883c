-- The buffer holds the lines of the rows below k.
use Rattle.listing.proofs.Chunks.{Filled}
use Rattle.listing.proofs.progress.fill.Given as goal

abbrev pub invariant-loop-k : goal.invariant-loop-k
invariant-loop-k l = Filled l.listing l.rows l.initial.out l.out l.k l.at
