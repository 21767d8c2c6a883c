-- The numbers of a line that is written. Where its places allow them each fits its digits, and then what is read from the line is what was
-- written.
use mathlib.Core.Bool.{and-eq-true_iff}
use mathlib.Core.List.{List}
use mathlib.Core.Path.{◌≡◌, ◌∙◌, ap, sym}
use Prim.Native.Nat.{ℕ, ◌<◌, ◌^◌}
use native.Mathlib.Nat.{zero-add}
use native.Mathlib.Omega.{arith}
use borrow.Author.Tests.{ltb-true}
use lib.Dec.{ltb}
use lib.ListN.{get_or}
use Rattle.encoding.proofs.Lowest.{AllHold}
use Rattle.passage.proofs.LineParts.{Part, axles_part, class_part, lane_part, part_at, time_part}
use Rattle.passage.proofs.Numerals.{number-numeral, number_same}
use Rattle.passage.proofs.Values.{values}
use Rattle.passage.specs.Format.{allowed_at, axles, class, lane, number_from, number_in, time}
use Rattle.passage.specs.Front.{Fit}
use Rattle.passage.specs.Write.{line_of, numeral}
use Rattle.passage.specs.declared.numbers.Numbers.{Numbers}

number_in_lem : (m x : ℕ) {s : List ℕ} {at : ℕ} {rest : List ℕ} → Part s at m (numeral m x) rest → x < 10 ^ m → number_from s at m ≡ x
number_in_lem m x {s} {at} part below =
    number_same s (numeral m x) at 0 m (λ i l. part_at part i l ∙ sym (ap (λ j. get_or (numeral m x) j 0) (zero-add i)))
    ∙ number-numeral m x below

module _ (n : Numbers) (p b : List ℕ) where
  pub allowed_fit : AllHold (allowed_at (line_of n p b)) 0 20 → Fit n
  allowed_fit all = (
    ltb-true _ _ (sym (values.of_lane n p b) ∙ all 0 (omega arith) (omega arith)),
    ltb-true _ _ (sym (values.of_time n p b) ∙ all 4 (omega arith) (omega arith)),
    ltb-true _ _ ((and-eq-true_iff (ltb 0 n.class) (ltb n.class (10 ^ 1))).0 (sym (values.of_class n p b) ∙ all 15 (omega arith) (omega arith))).1,
    ltb-true _ _ (sym (values.of_axles n p b) ∙ all 17 (omega arith) (omega arith)),
  )

  module _ (fit : Fit n) where
    pub lane_in : number_in lane (line_of n p b) ≡ n.lane
    lane_in = number_in_lem 3 n.lane (lane_part n p b) fit.0

    pub time_in : number_in time (line_of n p b) ≡ n.time
    time_in = number_in_lem 10 n.time (time_part n p b) fit.1

    pub class_in : number_in class (line_of n p b) ≡ n.class
    class_in = number_in_lem 1 n.class (class_part n p b) fit.2

    pub axles_in_lem : number_in axles (line_of n p b) ≡ n.axles
    axles_in_lem = number_in_lem 2 n.axles (axles_part n p b) fit.3
