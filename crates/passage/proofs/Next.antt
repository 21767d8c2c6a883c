-- Answers that follow one another: the last is given where none of the tests before it refuses.
use Rattle.refusal.specs.Refusals.{Outcome, done}
use Rattle.std.specs.Prelude.{Err, Ok}
use mathlib.Core.Bool.{Bool, cond, false, true, ◌||◌}
use mathlib.Core.Logic.{◌↔◌}
use mathlib.Core.Path.{◌≡◌, refl}
use Rattle.passage.specs.Read.{next}
use Rattle.refusal.proofs.Tests.{refused_done}
use Rattle.refusal.specs.declared.outcome.Refusal.{Refusal}

-- neither of two tests refuses
pub neither : (t u : Bool) (r : Refusal) → cond (t || u) (Err r) done ≡ done → (t ≡ false) × (u ≡ false)
neither true u r e = absurd (refused_done r e)
neither false true r e = absurd (refused_done r e)
neither false false r e = (refl, refl)

-- what was asked first was not refused, and nor was what came next
pub next_done : (o more : Outcome) → (next o Err more ≡ done) ↔ ((o ≡ done) × (more ≡ done))
next_done (Ok _) more = (λ e. (refl, e), λ h. h.1)
next_done (Err r) more = (λ e. absurd (refused_done r e), λ h. absurd (refused_done r h.0))
