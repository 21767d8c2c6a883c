-- Each chunk leaves less to print.
use mathlib.Core.Path.{◌≡◌}
use lib.ListN.{length}
use Rattle.listing.specs.Progress.{IfPossible}
use Rattle.listing.proofs.AllPrinted.{left}
use Rattle.listing.proofs.program.print_chunks.Given as goal

abbrev pub invariant-loop-progress : goal.invariant-loop-progress
invariant-loop-progress l = IfPossible l.progress × (length l.out ≡ 65536)

abbrev pub decreases-loop-progress : goal.decreases-loop-progress
decreases-loop-progress l = left l.progress
