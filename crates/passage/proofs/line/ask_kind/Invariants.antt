-- The places before k may have their bytes.
use Rattle.encoding.proofs.Lowest.{AllHold}
use Rattle.passage.specs.Format.{fits}
use Rattle.passage.proofs.line.ask_kind.Given as goal

abbrev pub invariant-loop-k : goal.invariant-loop-k
invariant-loop-k l = AllHold (fits l.fn.kind l.s) l.fn.places.first l.k
