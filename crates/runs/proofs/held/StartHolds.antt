-- Where the start wires have the start words, all start rows hold; where the digest's wires are copied from the result's, all rows of the
-- digest do.
use mathlib.Core.List.{List}
use mathlib.Core.Path.{◌≡◌, ◌∙◌, ap, subst, sym}
use Prim.Native.Nat.{ℕ, ◌+◌, ◌-◌, ◌*◌, ◌/◌, ◌%◌, ◌<◌}
use native.Mathlib.Omega.{arith}
use Rattle.assignment.specs.Assignment.{entry}
use Rattle.assignment.specs.Bounded.{BelowPrime}
use Rattle.block.specs.BlockWires.{state_wires}
use Rattle.block.specs.Steps.{block_rows}
use Rattle.block.specs.Wires.{result_at, result_first}
use Rattle.circuit.proofs.exact.Frame.{digest-row, start-row, start-run}
use Rattle.circuit.specs.Circuit.{digest_form, row_at}
use Rattle.circuit.specs.Circuits.{block_count}
use Rattle.circuit.specs.Places.{state_rows}
use Rattle.circuit.specs.Wires.{block_first, digest_first, start_first}
use Rattle.circuit.specs.declared.circuits.Circuit.{Circuit}
use Rattle.encoding.specs.Sequence.{grid}
use Rattle.forms.proofs.exact.Runs.{Judged}
use Rattle.forms.proofs.exact.Words.{equal_row}
use Rattle.forms.specs.Rows.{Satisfied, row_of}
use Rattle.runs.proofs.Judging.{judged_bytes}
use Rattle.agreement.specs.Agrees.{Agrees}
use Rattle.runs.specs.RowsHold.{RowsHold}
use Rattle.sm3.specs.Sm3.{start}

module _ (bytes : List ℕ) (one : entry bytes 0 ≡ 1) (below : BelowPrime bytes) (C : Circuit) (some : 0 < block_count C) where
  judged : Judged (entry bytes)
  judged = judged_bytes one below

  pub start-holds : Agrees start_first 256 (state_wires start) bytes → RowsHold C 0 state_rows bytes
  unfolding row_at
  start-holds agrees =
      record {
        each =
            λ k l h.
            let near : k < 256 = omega arith in
            subst (λ f. Satisfied (entry bytes) (row_of f)) (sym (start-row C some k near)) ((start-run (entry bytes) judged).1 agrees.entries k near);
      }

  pub digest-holds : ((k : ℕ) → k < 256 → entry bytes (digest_first + k) ≡ entry bytes (block_first (block_count C - 1) + result_at + k))
      → RowsHold C (state_rows + block_rows * block_count C) state_rows bytes
  unfolding row_at grid digest_form
  digest-holds copied =
      let first : ℕ = state_rows + block_rows * block_count C in
      let F : ℕ = block_first (block_count C - 1) in
      record {
        each =
            λ i l h.
            let k : ℕ = i - first in
            let row : 256 + (block_rows * block_count C + k) ≡ i = omega arith in
            let wire : digest_first + 32 * (k / 32) + k % 32 ≡ digest_first + k = omega arith in
            let from : F + result_at + k ≡ result_first F (k / 32) + k % 32 = omega arith in
            subst (λ r. Satisfied (entry bytes) (row_at C r)) row
            (subst (λ f. Satisfied (entry bytes) (row_of f)) (sym (digest-row C some k (omega arith)))
            ((equal_row (entry bytes) judged _ _).1 (ap (entry bytes) wire ∙ copied k (omega arith) ∙ ap (entry bytes) from)));
      }
