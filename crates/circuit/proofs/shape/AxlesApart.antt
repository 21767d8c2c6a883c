-- Every appended row of an axle circuit joins wires that are apart: the digits' bytes lie in the first block, and the appended numbers one behind
-- the other after the last.
use Prim.Native.Nat.{ℕ, ◌<◌, ◌≤◌}
use native.Mathlib.Omega.{arith}
use Rattle.circuit.specs.Axles.{above_lower, axle_form, axles, below_upper, digit_of, high_half, tens_byte, tens_left, units_byte, units_left}
use Rattle.circuit.specs.Ranges.{Allowed}
use Rattle.circuit.specs.Wires.{wire_count}
use Rattle.circuit.specs.declared.circuits.Circuit.TheVariants.{Axles}
use Rattle.encoding.proofs.Sequence.{Each, each_beside}
use Rattle.forms.proofs.shape.Apart.{Apart}
use Rattle.forms.proofs.shape.DifferenceApart.{ApartDifference}
use Rattle.forms.proofs.shape.WordApart.{difference_apart}
use Rattle.forms.specs.Rows.{bound_value}
use Rattle.forms.specs.WordWires.{number_wires}
use Rattle.forms.specs.declared.form.Bound.TheVariants.{Lower, Upper}
use Rattle.forms.specs.declared.form.Bound.{Bound}
use Rattle.limits.specs.Blocks.{blocks}

module _ (lower upper : ℕ) (h : Allowed (Axles lower upper)) where
  abbrev wires : ℕ
  wires = wire_count (Axles lower upper)

  half_apart : (byte : ℕ) → 1 ≤ byte → byte < 1000 → Each 4 (λ l. Apart wires (high_half byte l))
  unfolding high_half number_wires wire_count blocks
  half_apart byte low high l k = omega arith

  -- nine less a digit, on 4 wires from r on
  left_apart : (byte r : ℕ) → 1 ≤ byte → byte < 1000 → tens_left ≤ r → r ≤ units_left → ApartDifference wires (digit_of byte) (Upper 9) 4 r
  unfolding wire_count blocks
  left_apart byte r low high from to =
      record {
        units = omega arith;
        tens = tt;
        result = omega arith;
        least = omega arith;
        most = omega arith;
        few = omega arith;
      }

  -- the axles beside a bound, on 7 wires from r on
  beside_apart : (bound : Bound) (r : ℕ) → 2 ≤ bound_value bound → bound_value bound ≤ 99 → above_lower ≤ r → r ≤ below_upper → ApartDifference wires axles bound 7 r
  unfolding wire_count blocks
  beside_apart bound r low high from to =
      record { units = omega arith; tens = omega arith; result = omega arith; least = omega arith; most = omega arith; few = omega arith }

  pub axle_apart : Each 34 (λ k. Apart wires (axle_form lower upper k))
  unfolding axle_form
  axle_apart =
      (each_beside (λ k. Apart wires) 4 30 _ _).1 (
        half_apart tens_byte (omega arith) (omega arith),
        (each_beside (λ k. Apart wires) 4 26 _ _).1 (
          half_apart units_byte (omega arith) (omega arith),
          (each_beside (λ k. Apart wires) 5 21 _ _).1 (
            λ l k. difference_apart wires (digit_of tens_byte) (Upper 9) 4 tens_left l (left_apart tens_byte tens_left (omega arith) (omega arith) (omega arith) (omega arith)),
            (each_beside (λ k. Apart wires) 5 16 _ _).1 (
              λ l k. difference_apart wires (digit_of units_byte) (Upper 9) 4 units_left l (left_apart units_byte units_left (omega arith) (omega arith) (omega arith) (omega arith)),
              (each_beside (λ k. Apart wires) 8 8 _ _).1 (
                λ l k. difference_apart wires axles (Lower lower) 7 above_lower l (beside_apart (Lower lower) above_lower (omega arith) (omega arith) (omega arith) (omega arith)),
                λ l k. difference_apart wires axles (Upper upper) 7 below_upper l (beside_apart (Upper upper) below_upper (omega arith) (omega arith) (omega arith) (omega arith)),
              ),
            ),
          ),
        ),
      )
