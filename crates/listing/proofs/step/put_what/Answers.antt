-- The three columns go one after the other.
use native.Mathlib.Omega.{arith}
use Rattle.text.proofs.Put.{put_then}
use Rattle.listing.specs.Steps.{what_text}
use Rattle.listing.proofs.step.put_what.Goals as goal

pub returns : goal.returns
unfolding what_text
returns c = (
  put_then (put_then c.put_field-a.ensures.0 (rw (c.then_some.ensures, c.lines_of.ensures.0) at c.put_optional-b.ensures.0))
      (rw c.form_name.ensures.0 at c.put_name.ensures.0),
  omega (arith, c.put_name.ensures.1, c.form_name.ensures.1, c.put_optional-b.ensures.1, c.put_field-a.ensures.1),
)
