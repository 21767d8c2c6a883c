-- The digits are written from the last on. Before each turn the number's digits are those of what is left, in i places, and then what
-- was written behind them.
use mathlib.Core.List.{List, [], ◌∷◌, ◌++◌, append_assoc, append-nil}
use mathlib.Core.Path.{◌≡◌, ◌∙◌, ap, sym}
use Prim.Native.Nat.{ℕ, suc, ◌+◌, ◌-◌, ◌/◌, ◌%◌, ◌^◌, ◌<◌}
use native.Mathlib.Omega.{arith}
use Rattle.encoding.proofs.Written.{written_as, written-before, written_none, written_one}
use Rattle.passage.proofs.Numerals.{numeral_last, tenth_below}
use Rattle.passage.specs.Write.{numeral}
use Rattle.text.specs.Decimal.{digit}
use Rattle.passage.proofs.numbers.put_numeral.Goals as goal

-- a turn: the last digit of what is left comes before what was written
one_more : (whole written : List ℕ) (i rest : ℕ) → 0 < i → rest < 10 ^ i → whole ≡ numeral i rest ++ written
    → whole ≡ numeral (i - 1) (rest / 10) ++ (digit (rest % 10) ∷ written)
one_more whole written i rest some below e =
    let place : i ≡ suc (i - 1) = omega arith in
    e
    ∙ ap (λ m. numeral m rest ++ written) place
    ∙ ap (λ l. l ++ written) (numeral_last (i - 1) rest (rw place at below))
    ∙ append_assoc (numeral (i - 1) (rest / 10)) (digit (rest % 10) ∷ []) written

pub loop-i-init : goal.loop-i-init
loop-i-init c = (c.requires.fits, ([], sym (append-nil (numeral c.args.field.many c.args.x)), written_none _ _))

pub loop-i-preserved : goal.loop-i-preserved
loop-i-preserved c =
    let loop = c.loop-i in
    let at = c.args.field.first in
    let i = loop.i in
    let rest = loop.rest in
    let place : i ≡ suc (i - 1) = omega arith in
    let behind : at + i ≡ at + (i - 1) + 1 = omega arith in (
      tenth_below (i - 1) rest (rw place at loop.invariant.0),
      (
        digit (rest % 10) ∷ loop.invariant.1.0,
        one_more (numeral c.args.field.many c.args.x) loop.invariant.1.0 i rest c.loop-i-test.true loop.invariant.0 loop.invariant.1.1,
        written-before {xs = digit (rest % 10) ∷ []} (at + i) behind loop.invariant.1.2 (written_one (at + (i - 1)) (digit (rest % 10)) loop.out),
      ),
    )

pub returns : goal.returns
unfolding numeral
returns c =
    let loop = c.loop-i in
    let none : loop.i ≡ 0 = omega arith in
    let place : c.args.field.first + loop.i ≡ c.args.field.first = omega arith in
    written_as (sym (loop.invariant.1.1 ∙ ap (λ i. numeral i loop.rest ++ loop.invariant.1.0) none)) (rw place at loop.invariant.1.2)
