-- Each listing has its own header, of at most 30 bytes.
use native.Mathlib.Omega.{arith}
use Rattle.listing.proofs.progress.put_header.Goals as goal

pub returns-in-Rows : goal.returns-in-Rows
returns-in-Rows c = (rw c.in-Rows.is c.put_text.ensures, omega (arith, c.put_text.ensures.ends))

pub returns-in-Steps : goal.returns-in-Steps
returns-in-Steps c = (rw c.in-Steps.is c.put_text-in-Steps.ensures, omega (arith, c.put_text-in-Steps.ensures.ends))
