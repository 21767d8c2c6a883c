-- Before turn j the first j words are read. A word whose entries are not bits decides the answer.
use Rattle.std.proofs.Common.{◌≡◌, ◌≤◌, length}
use Rattle.agreement.specs.Agrees.{BitsOfWords}
use Rattle.agreement.proofs.word_read.read_words.Given as goal

abbrev pub invariant-loop-j : goal.invariant-loop-j
invariant-loop-j g l =
    (l.j ≤ l.j-end) × (length l.word-items ≡ l.j-end) × BitsOfWords l.w.0 l.j l.word-items l.assignment
