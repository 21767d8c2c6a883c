-- All wires are written from the buffer's front on.
use Prim.Native.Nat.{◌*◌, ◌≤◌}
use native.Mathlib.Omega.{arith}
use lib.ListN.{length}
use Rattle.assignment.proofs.Writes.{wrote_front}
use Rattle.circuit.specs.Wires.{wire_count}
use Rattle.circuit.specs.declared.circuits.Circuit.TheVariants.{Record}
use Rattle.record.specs.Produce.{assignment_of}
use Rattle.record.proofs.produce.produce.Goals as goal

pub returns-clause-out_after : goal.returns-clause-out_after
unfolding assignment_of
returns-clause-out_after c =
    let a = c.args in
    let given = c.in_ok-handed.ensures.given in
    let fits : 8 * wire_count (Record a.bits) ≤ length a.out.now = omega arith in
    wrote_front fits (rw (given.0, given.1) at c.put_assignment.ensures)
