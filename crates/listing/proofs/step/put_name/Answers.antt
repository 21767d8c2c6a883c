-- The stop goes after the name.
use native.Mathlib.Omega.{arith}
use Rattle.text.proofs.Put.{put_then_byte}
use Rattle.listing.proofs.step.put_name.Goals as goal

pub returns : goal.returns
returns c = (put_then_byte c.put_text-end.ensures c.args.stop, omega (arith, c.put_text-end.ensures.ends))
