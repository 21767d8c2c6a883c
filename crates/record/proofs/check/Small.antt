-- The check's answer has room in one number, as the circuit's has.
use Rattle.std.specs.Prelude.{Err}
use mathlib.Core.List.{List}
use mathlib.Core.Path.{refl}
use Prim.Native.Nat.{ℕ}
use Rattle.circuit.specs.declared.circuits.Circuit.TheVariants.{Record}
use Rattle.limits.proofs.limit.Decided.{allowed_range, limited-holds}
use Rattle.limits.specs.Limit.{length_answer}
use Rattle.record.specs.Check.{check_answer}
use Rattle.refusal.proofs.Small.{Small, bare}
use Rattle.acceptance.proofs.circuit_check.Answers as circuit

pub check_small : (l n : ℕ) (d a : List ℕ) → Small (check_answer l n d a)
unfolding check_answer length_answer
check_small l n d a =
    limited-holds Small Err (λ x. x) _ l n (λ x small. small) (bare refl) (bare refl) (bare refl) (λ allowed. circuit.check_small (Record n) d a (allowed_range allowed))
