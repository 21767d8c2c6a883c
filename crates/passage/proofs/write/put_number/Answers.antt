-- The digits, and the comma where they end.
use mathlib.Core.Path.{◌≡◌}
use Prim.Native.Nat.{◌+◌}
use native.Mathlib.Omega.{arith}
use lib.ListN.{length}
use Rattle.encoding.proofs.Written.{written_one, written_then}
use Rattle.passage.proofs.Numerals.{length-numeral}
use Rattle.passage.specs.Write.{numeral}
use Rattle.text.specs.Text.{comma}
use Rattle.passage.proofs.write.put_number.Goals as goal

pub returns : goal.returns
returns c =
    let a = c.args in
    let end : a.field.first + a.field.many ≡ a.field.first + length (numeral a.field.many a.x) = omega (arith, length-numeral a.field.many a.x) in
    written_then (a.field.first + a.field.many) end c.put_numeral.ensures (written_one (a.field.first + a.field.many) comma c.put_numeral.new.out)
