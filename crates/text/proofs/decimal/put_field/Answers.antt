-- The stop goes after the digits.
use native.Mathlib.Omega.{arith}
use Rattle.text.specs.Decimal.{field}
use Rattle.text.proofs.Put.{put_then_byte}
use Rattle.text.proofs.decimal.put_field.Goals as goal

pub returns : goal.returns
unfolding field
returns c = (put_then_byte c.put_decimal-end.ensures.0 c.args.stop, omega arith)
