-- Before turn i the first i bits are written; a turn writes the next.
use mathlib.Core.Path.{◌≡◌, refl}
use native.Mathlib.Omega.{arith}
use Rattle.assignment.proofs.Writes.{length-wrote, wrote-next, wrote_none}
use Rattle.forms.specs.WordWires.{number_wires}
use Rattle.axles.proofs.produce.put_number.Goals as goal

pub loop-i-init : goal.loop-i-init
loop-i-init c = (omega arith, wrote_none _ _ _)

pub put_entry-requires : goal.put_entry-requires
put_entry-requires c = omega (arith, length-wrote c.loop-i.invariant.1)

pub loop-i-preserved : goal.loop-i-preserved
unfolding number_wires
loop-i-preserved c =
    (omega arith, wrote-next _ refl refl c.loop-i.invariant.1 c.put_entry.ensures)

pub shape_of-out : goal.shape_of-out
shape_of-out c = length-wrote c.loop-i.invariant.1

pub returns : goal.returns
returns c =
    let all : c.loop-i.i ≡ c.args.width = omega (arith, c.loop-i.invariant.0, c.loop-i-test.false) in
    rw all at c.loop-i.invariant.1
