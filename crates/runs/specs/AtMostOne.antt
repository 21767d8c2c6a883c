-- That a circuit is allowed has at most one proof, so that a struct may hold it.
use mathlib.Core.HLevel.{×₃_prop}
use Rattle.std.specs.Coded.{le_prop}
use Rattle.circuit.specs.Ranges.{Allowed}
use Rattle.circuit.specs.declared.circuits.Circuit.TheVariants.{Record, Axles}
use Rattle.circuit.specs.declared.circuits.Circuit.{Circuit}

pub Allowed-prop : (c : Circuit) → IsProp (Allowed c)
Allowed-prop (Record n) = le_prop
Allowed-prop (Axles lower upper) = ×₃_prop le_prop le_prop le_prop
