-- All wires are written from the buffer's front on, and the band is that of the bounds.
use mathlib.Core.Path.{◌≡◌}
use Prim.Native.Nat.{◌*◌, ◌≤◌}
use native.Mathlib.Omega.{arith}
use lib.ListN.{length}
use Rattle.assignment.proofs.Writes.{wrote_front}
use Rattle.std.proofs.Common.{rules}
use Rattle.axles.specs.Produce.{axle_assignment_of}
use Rattle.circuit.specs.Wires.{wire_count}
use Rattle.circuit.specs.declared.circuits.Circuit.TheVariants.{Axles}
use Rattle.axles.proofs.produce.produce.Goals as goal

pub returns-clause-out_after : goal.returns-clause-out_after
unfolding axle_assignment_of
returns-clause-out_after c =
    let a = c.args in
    let b = c.in_ok-band.band in
    let same : (b.lower ≡ a.lower) × (b.upper ≡ a.upper) = search rules in
    let fits : 8 * wire_count (Axles b.lower b.upper) ≤ length a.out.now =
    rw (← c.circuit.ensures.value) (omega (arith, c.if-out-wires.false, c.wire_count-wires.ensures.0)) in
    rw (← same.0, ← same.1) (wrote_front fits (rw c.in_ok-handed.ensures.given.1 at c.put_axles.ensures))
