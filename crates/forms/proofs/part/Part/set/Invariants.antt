-- The terms so far, without the zero ones.
use Rattle.std.proofs.Common.{◌≡◌, ◌≤◌, length, take}
use Rattle.forms.specs.Rows.{nonzero}
use Rattle.forms.proofs.part.Part.set.Given as goal

abbrev pub invariant-loop-term : goal.invariant-loop-term
invariant-loop-term g l = (l.self ≡ nonzero (take l.term-index l.terms)) × (length l.self ≤ l.term-index)
