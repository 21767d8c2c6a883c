-- The check with signed coefficients is the check with residues: a row is satisfied by the one where it is by the other, so the lowest
-- that is not is the same.
use mathlib.Core.List.{List}
use mathlib.Core.Path.{◌≡◌, ap, fun_ext}
use Prim.Native.Nat.{ℕ}
use Rattle.assignment.specs.Assignment.{entry}
use Rattle.circuit.specs.Circuit.{row_at}
use Rattle.circuit.specs.Places.{row_count}
use Rattle.circuit.specs.declared.circuits.Circuit.{Circuit}
use Rattle.forms.proofs.exact.Signed.{rows_unaltered}
use Rattle.acceptance.specs.Check.{after_rows, before_rows, circuit_check}
use Rattle.acceptance.specs.Former.{CheckUnaltered, former_check}
use Rattle.satisfaction.specs.Lowest.{lowest, lowest_by}

pub same_answer : (c : Circuit) (d a : List ℕ) → circuit_check c d a ≡ former_check c d a
unfolding circuit_check former_check lowest
same_answer c d a =
    ap (λ test. before_rows c d a (after_rows (lowest_by test 0 (row_count c)))) (fun_ext (λ k. rows_unaltered (entry a) (row_at c k)))

pub check_unaltered : CheckUnaltered
check_unaltered = fun_ext (λ c. fun_ext (λ d. fun_ext (same_answer c d)))
