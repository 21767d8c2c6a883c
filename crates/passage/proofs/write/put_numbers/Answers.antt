-- The numbers are written one behind the other, so together they are the front of the line.
use mathlib.Core.List.{List, [], ◌∷◌, ◌++◌, append_assoc}
use mathlib.Core.Path.{◌≡◌}
use Prim.Native.Nat.{ℕ, ◌+◌}
use native.Mathlib.Omega.{arith}
use lib.ListN.{length, length-append}
use Rattle.encoding.proofs.Written.{written_as, written_then}
use Rattle.encoding.specs.Written.{Written}
use Rattle.passage.proofs.Numerals.{length-numeral}
use Rattle.passage.specs.Front.{front}
use Rattle.passage.specs.Write.{numeral}
use Rattle.text.specs.Text.{comma}
use Rattle.passage.proofs.write.put_numbers.Goals as goal

-- a number and its comma, and what stands behind them
number_then : (n x : ℕ) {at : ℕ} {rest l l' l'' : List ℕ} → Written at (numeral n x ++ (comma ∷ [])) l l' → Written (at + (n + 1)) rest l' l''
    → Written at (numeral n x ++ (comma ∷ rest)) l l''
number_then n x {at} {rest} number more =
    let end : at + (n + 1) ≡ at + length (numeral n x ++ (comma ∷ [])) =
    omega (arith, length-append (numeral n x) (comma ∷ []), length-numeral n x) in
    written_as (append_assoc (numeral n x) (comma ∷ []) rest) (written_then (at + (n + 1)) end number more)

pub returns : goal.returns
unfolding front
returns c =
    let n = c.args.numbers in
    number_then 3 n.lane c.put_number.ensures
    (number_then 10 n.time c.put_number-2.ensures
    (number_then 1 n.class c.put_number-3.ensures c.put_number-4.ensures))
