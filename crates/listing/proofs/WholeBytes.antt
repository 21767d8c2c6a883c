-- Whole bytes: the tests ask the range and the count of rows, which are those of L bytes.
use mathlib.Core.Path.{◌∙◌}
use Prim.Native.Nat.{◌*◌}
use Rattle.circuit.proofs.WholeBytes as circuit
use Rattle.circuit.specs.declared.circuits.Circuit.TheVariants.{Record}
use Rattle.limits.proofs.Limited.{ours_stand}
use Rattle.listing.specs.Request.{Request, checked, refused, within}
use Rattle.listing.specs.WholeBytes.{WholeBytes}
use Rattle.sm3.proofs.WholeBytes.{whole_bytes}

pub listing_whole_bytes : WholeBytes
unfolding checked within
listing_whole_bytes L f h =
    ours_stand Request refused (λ answer. answer) (8 * L) (within (Record (8 * L)) f h)
    ∙ rw (whole_bytes.range L, (circuit.whole_bytes).row_count_lem L)
