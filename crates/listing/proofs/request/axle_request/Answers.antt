-- A line that is read has numbers below 1,000,000,000.
use mathlib.Core.Path.{sym, ◌∙◌}
use Rattle.listing.proofs.AxleLineRight.{parse-axles_right}
use Rattle.listing.proofs.request.axle_request.Goals as goal

pub within-requires : goal.within-requires
within-requires c =
    let right = (parse-axles_right c.args.line.now _ _ _ _).0 (sym c.parse_axles.ensures ∙ c.in_ok-parsed.ensures.ok_part) in
    (c.circuit.ensures.allowed, right.2, right.3)
