-- The three columns go one after the other.
use native.Mathlib.Omega.{arith}
use Rattle.text.proofs.Put.{put_then}
use Rattle.listing.specs.Steps.{where_text}
use Rattle.listing.proofs.step.put_where.Goals as goal

pub returns : goal.returns
unfolding where_text
returns c = (
  put_then (put_then c.put_field-a.ensures.0 (rw c.block_of.ensures at c.put_optional-b.ensures.0))
      (rw c.step_name.ensures.0 at c.put_name.ensures.0),
  omega (arith, c.put_name.ensures.1, c.step_name.ensures.1, c.put_optional-b.ensures.1, c.put_field-a.ensures.1),
)
