-- Each test that fails decides the definition's, whose parts stand in the same order.
use mathlib.Core.Path.{◌∙◌, sym}
use native.Mathlib.Omega.{arith}
use borrow.Author.Tests.{le-leb, lt-leb}
use Rattle.axles.proofs.Bands.{digit_iff}
use Rattle.axles.specs.Band.{in_band}
use Rattle.axles.proofs.band.in_band.Goals as goal

pub returns-then-not-is_digit : goal.returns-then-not-is_digit
unfolding in_band
returns-then-not-is_digit c = rw (sym c.is_digit.ensures ∙ c.if-not-is_digit.true)

pub returns-then-not-is_digit-2 : goal.returns-then-not-is_digit-2
unfolding in_band
returns-then-not-is_digit-2 c =
    rw (sym c.is_digit.ensures ∙ c.if-not-is_digit.false, sym c.is_digit-2.ensures ∙ c.if-not-is_digit-2.true)

pub overflow_sub-axles : goal.overflow_sub-axles
overflow_sub-axles c =
    omega (arith, (digit_iff _).0 (sym c.is_digit.ensures ∙ c.if-not-is_digit.false), c.from-tens.ensures)

pub overflow_mul-axles : goal.overflow_mul-axles
overflow_mul-axles c = omega (arith, c.from-tens.ensures)

pub overflow_sub-axles-2 : goal.overflow_sub-axles-2
overflow_sub-axles-2 c =
    omega (arith, (digit_iff _).0 (sym c.is_digit-2.ensures ∙ c.if-not-is_digit-2.false), c.from-units.ensures)

pub overflow_add-axles : goal.overflow_add-axles
overflow_add-axles c = omega (arith, c.from-units.ensures, c.from-tens.ensures)

pub returns-then-axles-lower : goal.returns-then-axles-lower
unfolding in_band
returns-then-axles-lower c =
    rw (
      sym c.is_digit.ensures ∙ c.if-not-is_digit.false,
      sym c.is_digit-2.ensures ∙ c.if-not-is_digit-2.false,
      ← c.from-tens.ensures,
      ← c.from-units.ensures,
      lt-leb _ _ c.if-axles-lower.true,
    )

pub returns : goal.returns
unfolding in_band
returns c =
    rw (
      sym c.is_digit.ensures ∙ c.if-not-is_digit.false,
      sym c.is_digit-2.ensures ∙ c.if-not-is_digit-2.false,
      ← c.from-tens.ensures,
      ← c.from-units.ensures,
      le-leb _ _ c.if-axles-lower.false,
    )
