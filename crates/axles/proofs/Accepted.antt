-- When the check between two bounds accepts: where the bounds are in range and the circuit's check accepts.
use Rattle.refusal.specs.Refusals.{done}
use Rattle.std.specs.Prelude.{Err}
use mathlib.Core.List.{List}
use mathlib.Core.Logic.{◌↔◌}
use mathlib.Core.Path.{◌≡◌}
use Prim.Native.Nat.{ℕ}
use native.Mathlib.Omega.{arith}
use Rattle.axles.specs.Check.{axles_check_answer}
use Rattle.circuit.proofs.axles.Bounds.{bounds_iff}
use Rattle.circuit.specs.Ranges.{Allowed}
use Rattle.circuit.specs.declared.circuits.Circuit.TheVariants.{Axles}
use Rattle.refusal.proofs.Tests.{not_iff, past}
use Rattle.refusal.specs.declared.outcome.Refusal.TheVariants.{BoundsOutOfRange}
use Rattle.acceptance.proofs.Acceptance as circuit
use Rattle.acceptance.proofs.Acceptance.{Accepts}

pub accepted_iff : (lower upper : ℕ) (d a : List ℕ)
    → (axles_check_answer lower upper d a ≡ done) ↔ (Allowed (Axles lower upper) × Accepts (Axles lower upper) d a)
unfolding axles_check_answer
accepted_iff lower upper d a =
    past _ (Err BoundsOutOfRange) _ done (not_iff _ (bounds_iff lower upper)) (λ e. omega arith)
    (circuit.accepted_iff (Axles lower upper) d a)
