-- The record's wires are written, and behind them the numbers of its two digits, which are the low halves of their bytes.
use mathlib.Core.Path.{◌≡◌, ap₂, subst}
use Prim.Native.Nat.{ℕ, ◌+◌, ◌-◌}
use native.Mathlib.Omega.{arith}
use Rattle.assignment.proofs.Writes.{length-wrote, wrote_as, wrote_then}
use Rattle.assignment.specs.Wrote.{Wrote}
use Rattle.axles.proofs.Bands.{low_half}
use Rattle.axles.proofs.Counts.{axle_wires, record_wires}
use Rattle.axles.specs.Band.{tens_place, units_place}
use Rattle.axles.specs.Layout.{axle_wire_of, numbers, tens, units}
use Rattle.encoding.specs.Packed.{packed_length}
use lib.ListN.{length}
use mathlib.Core.List.{List}
use Rattle.circuit.specs.Axles.{axle_bits, tens_left}
use Rattle.circuit.specs.Wires.{wire_count}
use Rattle.circuit.specs.declared.circuits.Circuit.TheVariants.{Axles, Record}
use Rattle.encoding.specs.Bits.{bit_of_bytes}
use Rattle.axles.proofs.produce.put_axles.Goals as goal

-- a record with axles has 63 bytes
size : (n : ℕ) (bytes : List ℕ) → n ≡ axle_bits → length bytes ≡ packed_length n → length bytes ≡ 63
size n bytes e packed = rw e at packed

pub put_assignment-requires : goal.put_assignment-requires
put_assignment-requires c =
    rw c.requires.0 (omega (arith, c.requires.2, record_wires, axle_wires c.args.band.lower c.args.band.upper))

pub bounds-handed-17 : goal.bounds-handed-17
bounds-handed-17 c = omega (arith, size c.args.handed.bits c.args.handed.bytes.now c.requires.0 c.args.handed.packed)

pub overflow_sub-tens : goal.overflow_sub-tens
overflow_sub-tens c = omega (arith, c.from-tens.ensures, c.requires.1.tens)

pub bounds-handed-18 : goal.bounds-handed-18
bounds-handed-18 c = omega (arith, size c.args.handed.bits c.args.handed.bytes.now c.requires.0 c.args.handed.packed)

pub overflow_sub-units : goal.overflow_sub-units
overflow_sub-units c = omega (arith, c.from-units.ensures, c.requires.1.units)

pub put_numbers-requires : goal.put_numbers-requires
put_numbers-requires c =
    let band = c.requires.1 in
    let t = c.from-tens.ensures in
    let u = c.from-units.ensures in (
      omega (arith, t, band.tens),
      omega (arith, u, band.units),
      omega (arith, t, u, band.least),
      omega (arith, t, u, band.most),
      omega (arith, c.requires.2, length-wrote c.put_assignment.ensures),
    )

pub returns : goal.returns
unfolding axle_wire_of
returns c =
    let a = c.args in
    let bytes = a.handed.bytes.now in
    let band = c.requires.1 in
    let t : c.from-tens.result - 48 ≡ tens (bit_of_bytes bytes) = omega (arith, c.from-tens.ensures, band.tens, low_half bytes tens_place) in
    let u : c.from-units.result - 48 ≡ units (bit_of_bytes bytes) = omega (arith, c.from-units.ensures, band.units, low_half bytes units_place) in
    let place : tens_left ≡ 0 + wire_count (Record axle_bits) = omega (arith, record_wires) in
    let all : wire_count (Record axle_bits) + 22 ≡ wire_count (Axles a.band.lower a.band.upper) =
    omega (arith, record_wires, axle_wires a.band.lower a.band.upper) in
    subst (λ (n : ℕ). Wrote 0 n (axle_wire_of a.band.lower a.band.upper (bit_of_bytes bytes)) a.out.now c.put_numbers.new.out) all
    (wrote_then tens_left place (rw c.requires.0 at c.put_assignment.ensures)
    (wrote_as (ap₂ (numbers a.band.lower a.band.upper) t u) c.put_numbers.ensures))
