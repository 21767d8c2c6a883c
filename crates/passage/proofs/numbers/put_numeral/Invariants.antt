-- The digits are written from the last on. Before each turn the number's digits are those of what is left, in i places, and then what
-- was written behind them.
use mathlib.Core.List.{List, ◌++◌}
use mathlib.Core.Path.{◌≡◌}
use Prim.Native.Nat.{ℕ, ◌+◌, ◌^◌, ◌<◌}
use Rattle.encoding.specs.Written.{Written}
use Rattle.passage.specs.Write.{numeral}
use Rattle.passage.proofs.numbers.put_numeral.Given as goal

abbrev pub invariant-loop-i : goal.invariant-loop-i
invariant-loop-i l =
    (l.rest < 10 ^ l.i)
    × ((written : List ℕ) × (numeral l.field.many l.x ≡ numeral l.i l.rest ++ written)
    × Written (l.field.first + l.i) written l.initial.out l.out)
