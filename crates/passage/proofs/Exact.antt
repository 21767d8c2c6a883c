-- A line is read exactly when it has the paper's form: both ask the same of each field and each comma.
use Rattle.refusal.specs.Refusals.{done}
use Rattle.std.specs.Prelude.{Ok}
use mathlib.Core.Bool.{and-eq-true_iff, not, true}
use mathlib.Core.List.{List}
use mathlib.Core.Path.{◌≡◌, ◌∙◌, ap, refl, subst, sym}
use Prim.Native.Nat.{ℕ, zero, suc, ◌+◌, ◌-◌, ◌<◌, ◌≤◌}
use native.Mathlib.Omega.{arith}
use borrow.Author.Tests.{eq-eqb, eqb-false, ne_eqb, not-true}
use lib.Dec.{eqb}
use lib.ListN.{get_or, length}
use Rattle.passage.proofs.Answers.{AllAllowed, axles-digits, bytes_right, class-digits, comma-at, done_read, lane-digits, line_right, long_line, read_done, right_allowed, right_axles, right_lane, time-digits}
use Rattle.passage.proofs.ByParts.{by_parts}
use Rattle.passage.proofs.PlaceKinds.{axles_run, blind_run, first_run, lane_run, next_run, run_allowed, time_run}
use Rattle.passage.proofs.Plates.{form-first, form-follows, plate-form}
use Rattle.passage.specs.Exact.{Every, PassageLine, ReadExactly}
use Rattle.passage.specs.Format.{allowed_at, allows, follows, is_plate_byte, kind_at, number_from}
use Rattle.passage.specs.Read.{bytes_answer, numbers_in, read_answer}
use Rattle.passage.specs.Runs.{Run}
use Rattle.passage.specs.declared.format.Kind.TheVariants.{Comma, Digit}
use Rattle.text.proofs.Digits.{digit_bounds}
use Rattle.text.specs.Decimal.{is_digit}
use Rattle.text.specs.Hex.{is_hex}
use Rattle.text.specs.Text.{comma}

-- the class as a number: it is not 0 where its digit is not
class-number : (s : List ℕ) → number_from s 15 1 ≡ get_or s 15 0 - 48
unfolding number_from
class-number s = omega arith

-- From the form to the reading.
module _ (s : List ℕ) (form : PassageLine s) where
  comma_allowed : (k : ℕ) → kind_at k ≡ Comma → get_or s k 0 ≡ comma → allowed_at s k ≡ true
  unfolding allows
  comma_allowed k kind e = ap (λ q. allows q (get_or s (k - 1) 0) (get_or s k 0)) kind ∙ eq-eqb (get_or s k 0) comma e

  class_not_0 : get_or s 15 0 ≡ 48 → ⊥
  class_not_0 e = omega (arith, class-number s, form.class-from_1)

  class_allowed : (i : ℕ) → i < 1 → allowed_at s (15 + i) ≡ true
  unfolding kind_at allows
  class_allowed i l =
      let here : 0 ≡ i = omega arith in
      subst (λ j. allowed_at s (15 + j) ≡ true) here
      (simp (ne_eqb (get_or s 15 0) 48 class_not_0) (form.class-digit 0 (omega arith)))

  plate_allowed : (i : ℕ) → i < 10 → allowed_at s (20 + i) ≡ true
  unfolding allows
  plate_allowed zero l = run_allowed first_run s 20 (omega arith) (omega arith) ∙ form-first s 20 form.plate-form
  plate_allowed (suc i) l =
      let before : 20 + suc i - 1 ≡ 20 + i = omega arith in
      run_allowed next_run s (20 + suc i) (omega arith) (omega arith)
      ∙ ap (λ k. follows (get_or s k 0) (get_or s (20 + suc i) 0)) before
      ∙ form-follows s 20 form.plate-form i l

  digits_allowed : (at n : ℕ) → Run Digit at (at + n) → Every is_digit s at n → (i : ℕ) → i < n → allowed_at s (at + i) ≡ true
  unfolding allows
  digits_allowed at n places digits i l = run_allowed places s (at + i) (omega arith) (omega arith) ∙ digits i l

  blind_allowed : (i : ℕ) → i < 32 → allowed_at s (31 + i) ≡ true
  unfolding kind_at allows
  blind_allowed i l = run_allowed blind_run s (31 + i) (omega arith) (omega arith) ∙ form.blind-digits i l

  all_allowed : AllAllowed s
  unfolding kind_at
  all_allowed k low =
      by_parts (λ k. allowed_at s k ≡ true)
      (digits_allowed 0 3 lane_run form.lane-digits)
      (comma_allowed 3 refl form.comma_3)
      (digits_allowed 4 10 time_run form.time-digits)
      (comma_allowed 14 refl form.comma_14)
      class_allowed
      (comma_allowed 16 refl form.comma_16)
      (digits_allowed 17 2 axles_run form.axles-digits)
      (comma_allowed 19 refl form.comma_19)
      plate_allowed
      (comma_allowed 30 refl form.comma_30)
      blind_allowed
      k

  form-read : read_answer s ≡ Ok (numbers_in s)
  form-read =
      done_read s
      (long_line s form.size
      ∙ bytes_right s all_allowed (λ e. omega (arith, form.lane-from_1)) form.axles-from_2)

-- From the reading to the form.
module _ (s : List ℕ) (long : length s ≡ 63) (right : bytes_answer s ≡ done) where
  all : AllAllowed s
  all = right_allowed s right

  class_some : 1 ≤ number_from s 15 1
  unfolding kind_at allows
  class_some =
      let both = (and-eq-true_iff (not (eqb (get_or s 15 0) 48)) (is_digit (get_or s 15 0))).0 (all 15 (omega arith) (omega arith)) in
      let other = eqb-false (get_or s 15 0) 48 (not-true (eqb (get_or s 15 0) 48) both.0) in
      omega (arith, class-number s, digit_bounds (get_or s 15 0) both.1, other)

  plate_letter : is_plate_byte (get_or s 20 0) ≡ true
  unfolding allows
  plate_letter = sym (run_allowed first_run s 20 (omega arith) (omega arith)) ∙ all 20 (omega arith) (omega arith)

  plate-follows : (i : ℕ) → suc i < 10 → follows (get_or s (20 + i) 0) (get_or s (20 + suc i) 0) ≡ true
  unfolding allows
  plate-follows i l =
      let before : 20 + i ≡ 20 + suc i - 1 = omega arith in
      ap (λ k. follows (get_or s k 0) (get_or s (20 + suc i) 0)) before
      ∙ sym (run_allowed next_run s (20 + suc i) (omega arith) (omega arith))
      ∙ all (20 + suc i) (omega arith) (omega arith)

  blind-hex : Every is_hex s 31 32
  unfolding kind_at allows
  blind-hex i l = sym (run_allowed blind_run s (31 + i) (omega arith) (omega arith)) ∙ all (31 + i) (omega arith) (omega arith)

  read-form : PassageLine s
  unfolding kind_at
  read-form =
      record {
        size = long;
        lane-digits = lane-digits s all;
        lane-from_1 = omega (arith, right_lane s right);
        time-digits = time-digits s all;
        class-digit = class-digits s all;
        class-from_1 = class_some;
        axles-digits = axles-digits s all;
        axles-from_2 = right_axles s right;
        plate-form = plate-form s 20 plate_letter plate-follows;
        blind-digits = blind-hex;
        comma_3 = comma-at s all 3 (omega arith) refl;
        comma_14 = comma-at s all 14 (omega arith) refl;
        comma_16 = comma-at s all 16 (omega arith) refl;
        comma_19 = comma-at s all 19 (omega arith) refl;
        comma_30 = comma-at s all 30 (omega arith) refl;
      }

pub read_exactly : ReadExactly
read_exactly s = (
  λ given.
      let told = (line_right s).0 (read_done s given.0 given.1).0 in
      read-form s told.0 told.1,
  λ form. (numbers_in s, form-read s form),
)
