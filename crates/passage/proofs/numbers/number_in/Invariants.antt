-- Before turn i the value is that of the first i digits.
use mathlib.Core.Path.{◌≡◌}
use Rattle.passage.specs.Format.{number_from}
use Rattle.passage.proofs.numbers.number_in.Given as goal

abbrev pub invariant-loop-c : goal.invariant-loop-c
invariant-loop-c l = l.value ≡ number_from l.fn.line l.fn.field.first l.c-index
