-- A digit is at least 48, and its value, which is below 16, goes by the test of the definition.
use native.Mathlib.Omega.{arith}
use borrow.Author.Tests.{le-ltb, lt-ltb}
use Rattle.text.specs.Hex.{hex_value}
use Rattle.text.proofs.HexDigits.{hex-digit}
use Rattle.text.proofs.hex.hex_value.Goals as goal

pub overflow_sub-result : goal.overflow_sub-result
overflow_sub-result c = omega (arith, (hex-digit _ c.requires).low)

pub returns-then-c-lt97 : goal.returns-then-c-lt97
unfolding hex_value
returns-then-c-lt97 c =
    let low = lt-ltb _ _ c.if-c-lt97.true in
    (simp low, simp low at (hex-digit _ c.requires).value)

pub returns-else-c-lt97 : goal.returns-else-c-lt97
unfolding hex_value
returns-else-c-lt97 c =
    let high = le-ltb _ _ c.if-c-lt97.false in
    let below = simp high at (hex-digit _ c.requires).value in
    (simp high (omega arith), omega arith)
