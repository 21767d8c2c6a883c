-- The definition reads on from any state, so the loop keeps that reading on from where it stands gives the answer; each
-- byte then does what the definition says of it.
use mathlib.Core.Path.{◌≡◌}
use Prim.Native.Nat.{◌<◌}
use lib.ListN.{drop}
use Rattle.text.specs.Field.{field_from, field_of}
use Rattle.text.proofs.field.read_field.Given as goal

abbrev pub invariant-loop-n : goal.invariant-loop-n
invariant-loop-n l =
    (l.value < 1000000000) × (field_of l.stop (drop l.at l.s) ≡ field_from l.stop l.value l.n (drop l.n l.c-items))
