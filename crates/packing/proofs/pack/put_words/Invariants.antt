-- Before each turn the words from word j on are packed; a turn writes the four bytes before them.
use Prim.Native.Nat.{◌*◌, ◌≤◌}
use Rattle.assignment.specs.Assignment.{entry}
use Rattle.encoding.specs.Written.{Written}
use Rattle.packing.proofs.WordBytes.{words_from}
use Rattle.packing.proofs.pack.put_words.Given as goal

abbrev pub invariant-loop-j : goal.invariant-loop-j
invariant-loop-j l = (l.j ≤ l.words) × Written (4 * l.j) (words_from (entry l.assignment) l.words l.j) l.initial.out l.out

abbrev pub decreases-loop-j : goal.decreases-loop-j
decreases-loop-j l = l.j
