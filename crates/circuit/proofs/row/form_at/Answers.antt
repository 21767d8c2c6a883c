-- The row's place is one of the circuit's, so that its form has wires in range and few terms.
use mathlib.Core.Path.{◌≡◌}
use Prim.Native.Nat.{ℕ, ◌<◌}
use Rattle.block.specs.declared.place.Place.{Place}
use Rattle.circuit.proofs.place.PlaceRange.{in_circuit}
use Rattle.circuit.proofs.shape.Shape.{place_few}
use Rattle.circuit.specs.Circuit.{form_at}
use Rattle.circuit.specs.Circuits.{block_count}
use Rattle.circuit.specs.Places.{place_at, row_count}
use Rattle.circuit.specs.Ranges.{Allowed, InCircuit}
use Rattle.circuit.specs.declared.circuits.Circuit.{Circuit}
use Rattle.circuit.proofs.row.form_at.Goals as goal

in_row : (C : Circuit) → Allowed C → (k : ℕ) {b : ℕ} {q : Place} → b ≡ block_count C → q ≡ place_at b k → k < row_count C → InCircuit C q
in_row C h k e at below = rw (at, e) (in_circuit C h k below)

pub form_of-requires : goal.form_of-requires
form_of-requires c =
    (c.requires.0, in_row _ c.requires.0 _ c.block_count.ensures.0 c.place_of.ensures c.requires.1)

pub returns : goal.returns
unfolding form_at
returns c =
    let form = c.form_of.ensures in (
      rw (← c.block_count.ensures.0, ← c.place_of.ensures) form.0,
      form.1,
      rw form.0 (place_few _ c.requires.0 _ _ _ _ (in_row _ c.requires.0 _ c.block_count.ensures.0 c.place_of.ensures c.requires.1)),
    )
