-- Entries below the prime, with 1 on wire 0, are an assignment that the rows may judge.
use mathlib.Core.List.{List}
use mathlib.Core.Path.{◌≡◌}
use Prim.Native.Nat.{ℕ}
use Rattle.assignment.specs.Assignment.{entry}
use Rattle.assignment.specs.Bounded.{BelowPrime}
use Rattle.forms.proofs.exact.Runs.{Judged}

pub judged_bytes : {bytes : List ℕ} → entry bytes 0 ≡ 1 → BelowPrime bytes → Judged (entry bytes)
judged_bytes one below = record { one = one; below = below.each }
