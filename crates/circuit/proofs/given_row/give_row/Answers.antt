-- The bytes of the row's terms are left at the front.
use native.Mathlib.Omega.{arith}
use Prim.Native.Nat.{◌<◌}
use Rattle.circuit.proofs.given_row.GivenRows.{row_left}
use Rattle.circuit.specs.Places.{row_count}
use Rattle.circuit.proofs.given_row.give_row.Goals as goal

pub returns-clause-out_after : goal.returns-clause-out_after
returns-clause-out_after c =
    let below : c.args.row.0 < row_count c.args.circuit = omega (arith, c.row_count-count.ensures.0) in
    row_left _ c.requires _ below _ c.row_terms.ensures _ _ _ c.if-out-lt-ROW_BYTES.false c.put_terms.ensures
