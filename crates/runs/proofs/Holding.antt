-- Rows that hold: none, one run after the other, and the same run by another name of its first row.
use mathlib.Core.List.{List}
use mathlib.Core.Logic.{by_cases}
use mathlib.Core.Path.{◌≡◌, subst, sym}
use Prim.Native.Nat.{ℕ, ◌+◌}
use native.Mathlib.Decide.{dec_lt}
use native.Mathlib.Omega.{arith}
use Rattle.circuit.specs.declared.circuits.Circuit.{Circuit}
use Rattle.runs.specs.RowsHold.{RowsHold}

module _ {C : Circuit} {bytes : List ℕ} where
  pub hold_none : (k : ℕ) → RowsHold C k 0 bytes
  hold_none k = record { each = λ j l h. absurd (omega arith) }

  pub hold_then : (k m n : ℕ) → RowsHold C k m bytes → RowsHold C (k + m) n bytes → RowsHold C k (m + n) bytes
  hold_then k m n first rest =
      record {
        each = λ j l h. by_cases (dec_lt j (k + m)) (λ before. first.each j l before) (λ past. rest.each j (omega arith) (omega arith));
      }

  pub hold_from : (n : ℕ) {j k : ℕ} → j ≡ k → RowsHold C k n bytes → RowsHold C j n bytes
  hold_from n e h = subst (λ i. RowsHold C i n bytes) (sym e) h
