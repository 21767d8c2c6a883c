-- Turn i puts on the term of bit i behind those of the bits before it.
use Rattle.std.proofs.Common.{◌≡◌, ◌+◌, ◌≤◌, ◌++◌, length}
use Rattle.encoding.specs.Sequence.{tab}
use Rattle.forms.proofs.terms.Pushed.{word_term}
use Rattle.forms.specs.Rows.{nonzero}
use Rattle.forms.proofs.terms.push_word.Given as goal

abbrev pub invariant-loop-i : goal.invariant-loop-i
invariant-loop-i l = (l.part ≡ l.initial.part ++ nonzero (tab l.i (word_term l.x))) × (length l.part ≤ length l.initial.part + l.i)
