-- The place and the form are those of the row.
use mathlib.Core.Path.{◌≡◌, subst, sym, ap, ◌∙◌}
use Prim.Native.Nat.{ℕ}
use native.Mathlib.Omega.{arith}
use Rattle.circuit.proofs.place.PlaceRange.{in_circuit}
use Rattle.circuit.specs.Circuit.{form_at}
use Rattle.circuit.specs.Circuits.{block_count}
use Rattle.circuit.specs.Places.{place_at}
use Rattle.circuit.specs.Ranges.{InCircuit}
use Rattle.circuit.specs.declared.circuits.Circuit.{Circuit}
use Rattle.block.specs.declared.place.Place.{Place}
use Rattle.text.proofs.Put.{put_then}
use Rattle.listing.specs.Steps.{step_line}
use Rattle.listing.proofs.step.put_step_line.Goals as goal

-- the blocks are the circuit's
at_place : (C : Circuit) (k b : ℕ) (place : Place) → b ≡ block_count C → place ≡ place_at b k → place ≡ place_at (block_count C) k
at_place C k b place blocks is = is ∙ ap (λ (n : ℕ). place_at n k) blocks

pub form_of-form-requires : goal.form_of-form-requires
form_of-form-requires c =
    let circuit = c.args.circuit in
    let place = at_place circuit c.args.row.0 _ _ c.block_count.ensures.0 c.place_of-p.ensures in
    (c.requires.1, subst (InCircuit circuit) (sym place) (in_circuit circuit c.requires.1 _ c.requires.2))

pub returns : goal.returns
unfolding form_at step_line
returns c =
    let place = at_place c.args.circuit c.args.row.0 _ _ c.block_count.ensures.0 c.place_of-p.ensures in (
      put_then (rw place at c.put_where-middle.ensures.0)
          (rw (c.form_of-form.ensures.0, place) at c.put_what.ensures.0),
      omega (arith, c.put_what.ensures.1, c.put_where-middle.ensures.1),
    )
