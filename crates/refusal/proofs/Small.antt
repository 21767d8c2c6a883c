-- Answers that have room in one number. Most refusals have no value; of a chain of tests each answer has to have room.
use Rattle.std.specs.Prelude.{Err}
use mathlib.Core.Bool.{Bool, cond, false, true}
use mathlib.Core.List.{[]}
use mathlib.Core.Path.{◌≡◌, refl, subst, sym}
use Prim.Native.Nat.{◌<◌, ◌^◌}
use lib.Dec.{lit<}
use Rattle.refusal.specs.Packing.{above}
use Rattle.refusal.specs.Refusals.{outcome_values, refusal_values, Outcome, done}
use Rattle.refusal.specs.declared.outcome.Refusal.TheVariants.{BufferTooShort}
use Rattle.refusal.specs.declared.outcome.Refusal.{Refusal}

-- the values of an answer have room
pub record Small (o : Outcome) : Type 0 where
  pub room : above (outcome_values o) < 2 ^ 56

pub done_small : Small done
done_small = record { room = lit< tt }

-- a refusal without values
pub bare : {r : Refusal} → refusal_values r ≡ [] → Small (Err r)
bare {r} e = record { room = subst (λ v. above v < 2 ^ 56) (sym e) (lit< tt) }

-- what holds of a test's own answer and, where the test is passed, of what follows, holds of the answer
pub tested : {A : Type 0} (P : A → Type 0) (t : Bool) {x y : A} → P x → (t ≡ false → P y) → P (cond t x y)
tested P true px py = px
tested P false px py = py refl

-- the test of a buffer
pub room_small : (t : Bool) → Small (cond t (Err BufferTooShort) done)
room_small t = tested Small t (bare refl) (λ _. done_small)
