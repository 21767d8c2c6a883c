-- The numbers are asked field by field: the places of a number that fits are allowed, and the first place of the first that does not is the lowest
-- wrong one. Where none is wrong each number fits its digits.
use mathlib.Core.Bool.{false}
use mathlib.Core.List.{List}
use mathlib.Core.Path.{◌≡◌, ◌∙◌}
use Prim.Native.Nat.{ℕ, ◌<◌, ◌≤◌}
use native.Mathlib.Omega.{arith}
use borrow.Author.Tests.{le-ltb}
use Rattle.encoding.proofs.Lowest.{AllHold}
use Rattle.passage.proofs.Asked.{asked_none, asked_wrong, passed_then}
use Rattle.passage.proofs.Values.{axles_passed, class_0, class_passed, class_too_great, lane_passed, time_passed, values}
use Rattle.passage.specs.Format.{allowed_at}
use Rattle.passage.specs.Runs.{asked, wrong_at}
use Rattle.passage.specs.Write.{line_of}
use Rattle.passage.specs.declared.numbers.Numbers.{Numbers}
use Rattle.refusal.specs.Refusals.{done}

module _ (n : Numbers) (p b : List ℕ) where
  -- the places before one
  abbrev Passed : ℕ → Type 0
  Passed at = AllHold (allowed_at (line_of n p b)) 0 at

  stops : (at : ℕ) → at < 20 → Passed at → allowed_at (line_of n p b) at ≡ false → asked (allowed_at (line_of n p b)) 0 20 ≡ wrong_at at
  stops at l before wrong = asked_wrong (allowed_at (line_of n p b)) 0 20 at before (omega arith) (omega arith) wrong

  pub lane_wrong : 999 < n.lane → asked (allowed_at (line_of n p b)) 0 20 ≡ wrong_at 0
  lane_wrong above = stops 0 (omega arith) (λ i low high. absurd (omega arith)) (values.of_lane n p b ∙ le-ltb _ _ above)

  module _ (lane : n.lane ≤ 999) where
    to_time : Passed 4
    to_time = lane_passed n p b (omega arith)

    pub time_wrong : 9999999999 < n.time → asked (allowed_at (line_of n p b)) 0 20 ≡ wrong_at 4
    time_wrong above = stops 4 (omega arith) to_time (values.of_time n p b ∙ le-ltb _ _ above)

    module _ (time : n.time ≤ 9999999999) where
      to_class : Passed 15
      to_class = passed_then _ 0 4 15 to_time (time_passed n p b (omega arith))

      pub class_none : n.class ≡ 0 → asked (allowed_at (line_of n p b)) 0 20 ≡ wrong_at 15
      class_none none = stops 15 (omega arith) to_class (class_0 n p b none)

      pub class_wrong : 9 < n.class → asked (allowed_at (line_of n p b)) 0 20 ≡ wrong_at 15
      class_wrong above = stops 15 (omega arith) to_class (class_too_great n p b above)

      module _ (some : n.class ≡ 0 → ⊥) (class : n.class ≤ 9) where
        to_axles : Passed 17
        to_axles = passed_then _ 0 15 17 to_class (class_passed n p b (omega (arith, some)) (omega arith))

        pub axles_wrong : 99 < n.axles → asked (allowed_at (line_of n p b)) 0 20 ≡ wrong_at 17
        axles_wrong above = stops 17 (omega arith) to_axles (values.of_axles n p b ∙ le-ltb _ _ above)

        pub none_wrong : n.axles ≤ 99 → asked (allowed_at (line_of n p b)) 0 20 ≡ done
        none_wrong axles =
            asked_none (allowed_at (line_of n p b)) 0 20 (passed_then _ 0 17 20 to_axles (axles_passed n p b (omega arith)))
