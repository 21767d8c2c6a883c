-- Each chunk leaves less to print.
use native.Mathlib.Omega.{arith}
use Prim.Native.Nat.{◌≤◌}
use lib.ListN.{length}
use Rattle.listing.specs.Progress.{room}
use Rattle.listing.proofs.AllPrinted.{falls}
use Rattle.listing.proofs.Chunks.{room_bounds}
use Rattle.listing.proofs.program.print_chunks.Goals as goal

pub loop-progress-smaller : goal.loop-progress-smaller
loop-progress-smaller c =
    let space : room c.args.listing ≤ length c.loop-progress.out =
    omega (arith, c.loop-progress.invariant.1, (room_bounds c.args.listing).1) in
    rw (c.in-Some.is, c.next_chunk-chunk.ensures.0.next) (falls c.args.listing _ space _)
