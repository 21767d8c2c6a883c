-- What is laid out from the next step on, at the line that is left, is what all steps have at row k.
use Rattle.std.proofs.Common.{◌≡◌, drop}
use Rattle.block.specs.Steps.{one_after_other, place}
use Rattle.block.proofs.place.place_among.Given as goal

abbrev pub invariant-loop-step : goal.invariant-loop-step
invariant-loop-step l =
    one_after_other (λ s. place s l.i) (drop l.step-index l.steps) l.last l.j l.line
    ≡ one_after_other (λ s. place s l.i) l.fn.steps l.last l.j l.fn.k
