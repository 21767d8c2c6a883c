-- How many wires there are: those of a record of 504 bits, and 22 more.
use mathlib.Core.Path.{◌≡◌, refl}
use Prim.Native.Nat.{ℕ}
use Rattle.circuit.specs.Axles.{axle_bits}
use Rattle.circuit.specs.Wires.{wire_count}
use Rattle.circuit.specs.declared.circuits.Circuit.TheVariants.{Axles, Record}
use Rattle.limits.specs.Blocks.{blocks}

pub record_wires : wire_count (Record axle_bits) ≡ 45569
unfolding wire_count blocks
record_wires = refl

pub axle_wires : (lower upper : ℕ) → wire_count (Axles lower upper) ≡ 45591
unfolding wire_count blocks
axle_wires lower upper = refl
