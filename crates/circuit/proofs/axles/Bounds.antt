-- Bounds that are in range make a circuit that is allowed, and no others do.
use mathlib.Core.Bool.{and-eq-true_iff, true}
use mathlib.Core.Logic.{◌↔◌}
use mathlib.Core.Path.{◌≡◌}
use Prim.Native.Nat.{ℕ}
use borrow.Author.Tests.{le-leb, leb-true}
use lib.Dec.{leb}
use Rattle.circuit.specs.Axles.{bounds_in_range}
use Rattle.circuit.specs.Ranges.{Allowed}
use Rattle.circuit.specs.declared.circuits.Circuit.TheVariants.{Axles}

pub bounds_iff : (lower upper : ℕ) → (bounds_in_range lower upper ≡ true) ↔ Allowed (Axles lower upper)
unfolding bounds_in_range
bounds_iff lower upper = (
  λ e.
      let low = (and-eq-true_iff (leb 2 lower) _).0 e in
      let high = (and-eq-true_iff (leb lower upper) (leb upper 99)).0 low.1 in
      (leb-true 2 lower low.0, leb-true lower upper high.0, leb-true upper 99 high.1),
  λ (low, rises, high).
      (and-eq-true_iff (leb 2 lower) _).1
      (le-leb 2 lower low, (and-eq-true_iff (leb lower upper) (leb upper 99)).1 (le-leb lower upper rises, le-leb upper 99 high)),
)
