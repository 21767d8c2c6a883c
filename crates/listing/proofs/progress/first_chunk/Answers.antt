-- A request for rows begins with the first line; any other is refused.
use mathlib.Core.Path.{refl}
use native.Mathlib.Omega.{arith}
use Rattle.listing.specs.declared.progress.Progress.TheVariants.{Begun}
use Rattle.listing.proofs.Chunks.{handed, room_bounds}
use Rattle.listing.proofs.progress.first_chunk.Goals as goal

pub returns-in-Ok : goal.returns-in-Ok
returns-in-Ok c =
    let args = c.args in
    handed (Begun args.request) (rw c.in-Ok.is c.put_header.ensures.0)
    (omega (arith, c.put_header.ensures.1, c.requires, (room_bounds args.listing).0))
    (rw c.in-Ok.is refl)

pub returns-in-Err : goal.returns-in-Err
returns-in-Err c =
    let args = c.args in
    handed (Begun args.request) (rw c.in-Err.is (rw c.number.ensures.0 at c.put_refusal.ensures.0))
    (omega (arith, c.put_refusal.ensures.1, c.requires, (room_bounds args.listing).0))
    (rw c.in-Err.is refl)
