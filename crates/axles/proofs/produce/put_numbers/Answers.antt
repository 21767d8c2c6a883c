-- The four numbers are written one after the other.
use mathlib.Core.Path.{refl}
use native.Mathlib.Omega.{arith}
use Rattle.assignment.proofs.Writes.{length-wrote, wrote_then}
use Rattle.axles.proofs.Counts.{axle_wires}
use Rattle.axles.specs.Layout.{numbers}
use Rattle.circuit.specs.Axles.{above_lower, below_upper, units_left}
use Rattle.axles.proofs.produce.put_numbers.Goals as goal

pub put_number-requires : goal.put_number-requires
put_number-requires c =
    omega (arith, c.requires.4, axle_wires c.args.band.lower c.args.band.upper)

pub put_number-requires-2 : goal.put_number-requires-2
put_number-requires-2 c =
    omega (arith, c.requires.4, axle_wires c.args.band.lower c.args.band.upper, length-wrote c.put_number.ensures)

pub put_number-requires-3 : goal.put_number-requires-3
put_number-requires-3 c =
    omega (
      arith,
      c.requires.4,
      axle_wires c.args.band.lower c.args.band.upper,
      length-wrote c.put_number.ensures,
      length-wrote c.put_number-2.ensures,
    )

pub put_number-requires-4 : goal.put_number-requires-4
put_number-requires-4 c =
    omega (
      arith,
      c.requires.4,
      axle_wires c.args.band.lower c.args.band.upper,
      length-wrote c.put_number.ensures,
      length-wrote c.put_number-2.ensures,
      length-wrote c.put_number-3.ensures,
    )

pub returns : goal.returns
unfolding numbers
returns c =
    wrote_then units_left refl c.put_number.ensures
    (wrote_then above_lower refl c.put_number-2.ensures
    (wrote_then below_upper refl c.put_number-3.ensures c.put_number-4.ensures))
