-- The first place of a number's field has a digit exactly where the number is below 10 to the number of its places, and the places behind
-- it always have one. Plate and blind stand in the line byte by byte.
use mathlib.Core.Bool.{Bool, false, not, true, ◌&&◌}
use mathlib.Core.List.{List}
use mathlib.Core.Logic.{by_cases}
use mathlib.Core.Path.{◌≡◌, ◌∙◌, ap, ap₂, refl, subst, sym}
use Prim.Native.Nat.{ℕ, suc, ◌+◌, ◌-◌, ◌<◌, ◌≤◌, ◌^◌}
use native.Mathlib.Decide.{dec_lt}
use native.Mathlib.Nat.{add-zero}
use native.Mathlib.Omega.{arith}
use borrow.Author.Tests.{eq-eqb, le-ltb, lt-ltb, ne_eqb}
use lib.Dec.{eqb, ltb}
use lib.ListN.{get_or, length}
use lib.Seq.{get_or-drop}
use Rattle.encoding.proofs.Lowest.{AllHold}
use Rattle.passage.proofs.LineParts.{Part, axles_part, blind_part, class_part, lane_part, part_at, part_comma, plate_part, time_part}
use Rattle.passage.proofs.Numerals.{digits_behind, first-digit, no_first_digit}
use Rattle.passage.proofs.PlaceKinds.{axles_run, blind_run, class_run, lane_run, run_allowed, time_run}
use Rattle.passage.specs.Format.{allowed_at, allows, is_plate_byte, kind_at}
use Rattle.passage.specs.Runs.{Run}
use Rattle.passage.specs.Values.{Values}
use Rattle.passage.specs.Write.{line_of, numeral}
use Rattle.passage.specs.declared.format.Kind.TheVariants.{Comma, Digit}
use Rattle.passage.specs.declared.numbers.Numbers.{Numbers}
use Rattle.text.specs.Decimal.{digit, is_digit}
use Rattle.text.specs.Hex.{is_hex}

-- A number in a field of digits.
module _ (m x : ℕ) {s : List ℕ} {at : ℕ} {rest : List ℕ} (part : Part s at (suc m) (numeral (suc m) x) rest) (places : Run Digit at (at + suc m)) where
  digit_at : (i : ℕ) → i < suc m → allowed_at s (at + i) ≡ is_digit (get_or (numeral (suc m) x) i 0)
  unfolding allows
  digit_at i l = run_allowed places s (at + i) (omega arith) (omega arith) ∙ ap is_digit (part_at part i l)

  number-first : allowed_at s at ≡ ltb x (10 ^ suc m)
  number-first =
      sym (ap (allowed_at s) (add-zero at))
      ∙ digit_at 0 (omega arith)
      ∙ by_cases (dec_lt x (10 ^ suc m)) (λ below. first-digit m x below ∙ sym (lt-ltb x (10 ^ suc m) below))
      (λ above. no_first_digit m x (omega arith) ∙ sym (le-ltb x (10 ^ suc m) (omega arith)))

-- a comma is allowed where one is asked for
comma_allowed : {s : List ℕ} {at m : ℕ} {xs rest : List ℕ} → Part s at m xs rest → kind_at (at + m) ≡ Comma → allowed_at s (at + m) ≡ true
unfolding allows
comma_allowed {s} {at} {m} part kind =
    ap (λ k. allows k (get_or s (at + m - 1) 0) (get_or s (at + m) 0)) kind ∙ eq-eqb _ _ (part_comma part)

-- the class in its one digit
class-digit : (x : ℕ) → (not (eqb (get_or (numeral 1 x) 0 0) 48) && is_digit (get_or (numeral 1 x) 0 0)) ≡ (ltb 0 x && ltb x (10 ^ 1))
unfolding numeral
class-digit x =
    ap₂ (λ t u. t && u)
    (by_cases (dec_lt 0 x)
    (λ some. ap not (ne_eqb (digit x) 48 (λ e. omega arith)) ∙ sym (lt-ltb 0 x some))
    (λ none. ap not (eq-eqb (digit x) 48 (omega arith)) ∙ sym (le-ltb 0 x (omega arith))))
    (by_cases (dec_lt x (10 ^ 1)) (λ below. first-digit 0 x below ∙ sym (lt-ltb x (10 ^ 1) below))
    (λ above. no_first_digit 0 x (omega arith) ∙ sym (le-ltb x (10 ^ 1) (omega arith))))

-- behind the first place of a number's field
number_behind : (m x : ℕ) {s : List ℕ} {at : ℕ} {rest : List ℕ} → Part s at (suc m) (numeral (suc m) x) rest → Run Digit at (at + suc m)
    → kind_at (at + suc m) ≡ Comma → (k : ℕ) → at < k → k < at + suc m + 1 → allowed_at s k ≡ true
number_behind m x {s} {at} part places kind k past l =
    by_cases (dec_lt k (at + suc m))
    (λ inside.
    let place : at + (k - at) ≡ k = omega arith in
    subst (λ j. allowed_at s j ≡ true) place
    (digit_at m x part places (k - at) (omega arith) ∙ digits_behind (suc m) x (k - at) (omega arith) (omega arith)))
    (λ last.
    let place : at + suc m ≡ k = omega arith in
    subst (λ j. allowed_at s j ≡ true) place (comma_allowed part kind))

module _ (n : Numbers) (p b : List ℕ) where
  abbrev line : List ℕ
  line = line_of n p b

  lane_first : allowed_at line 0 ≡ ltb n.lane (10 ^ 3)
  unfolding kind_at
  lane_first = number-first 2 n.lane (lane_part n p b) lane_run

  time-first : allowed_at line 4 ≡ ltb n.time (10 ^ 10)
  unfolding kind_at
  time-first = number-first 9 n.time (time_part n p b) time_run

  class-first : allowed_at line 15 ≡ (ltb 0 n.class && ltb n.class (10 ^ 1))
  unfolding kind_at allows
  class-first =
      run_allowed class_run line 15 (omega arith) (omega arith)
      ∙ ap (λ c. not (eqb c 48) && is_digit c) (part_at (class_part n p b) 0 (omega arith))
      ∙ class-digit n.class

  axles-first : allowed_at line 17 ≡ ltb n.axles (10 ^ 2)
  unfolding kind_at
  axles-first = number-first 1 n.axles (axles_part n p b) axles_run

  lane_behind : (k : ℕ) → 0 < k → k < 4 → allowed_at line k ≡ true
  unfolding kind_at
  lane_behind = number_behind 2 n.lane (lane_part n p b) lane_run refl

  time_behind : (k : ℕ) → 4 < k → k < 15 → allowed_at line k ≡ true
  unfolding kind_at
  time_behind = number_behind 9 n.time (time_part n p b) time_run refl

  class_behind : allowed_at line 16 ≡ true
  unfolding kind_at
  class_behind = comma_allowed (class_part n p b) refl

  axles_behind : (k : ℕ) → 17 < k → k < 20 → allowed_at line k ≡ true
  unfolding kind_at
  axles_behind = number_behind 1 n.axles (axles_part n p b) axles_run refl

  numbers_behind : (k : ℕ) → k < 20 → (k ≡ 0 → ⊥) → (k ≡ 4 → ⊥) → (k ≡ 15 → ⊥) → (k ≡ 17 → ⊥) → allowed_at line k ≡ true
  numbers_behind k l not-0 not-4 not-15 not-17 =
      by_cases (dec_lt k 4) (lane_behind k (omega (arith, not-0)))
      (λ k≥4. by_cases (dec_lt k 15) (time_behind k (omega (arith, not-4)))
      (λ k≥15. by_cases (dec_lt k 17)
      (λ k<17. let here : 16 ≡ k = omega (arith, not-15) in subst (λ j. allowed_at line j ≡ true) here class_behind)
      (λ k≥17. axles_behind k (omega (arith, not-17)) l)))

  module _ (long : length p ≡ 10) where
    plate-comma : allowed_at line 30 ≡ true
    unfolding kind_at
    plate-comma = comma_allowed (plate_part n p b long) refl

    plate-first : allowed_at line 20 ≡ allows (kind_at 20) (get_or p 0 0) (get_or p 0 0)
    unfolding kind_at allows
    plate-first = ap is_plate_byte (part_at (plate_part n p b long) 0 (omega arith))

    plate-byte : (i : ℕ) → i < 10 → allowed_at line (20 + i) ≡ allows (kind_at (20 + i)) (get_or p (i - 1) 0) (get_or p i 0)
    plate-byte i l =
        by_cases (dec_lt 0 i)
        (λ some.
        let place : 20 + i - 1 ≡ 20 + (i - 1) = omega arith in
        ap₂ (allows (kind_at (20 + i)))
        (ap (λ k. get_or line k 0) place ∙ part_at (plate_part n p b long) (i - 1) (omega arith))
        (part_at (plate_part n p b long) i l))
        (λ none.
        let first : 0 ≡ i = omega arith in
        subst (λ k. allowed_at line (20 + k) ≡ allows (kind_at (20 + k)) (get_or p (k - 1) 0) (get_or p k 0)) first plate-first)

    blind-byte : (i : ℕ) → i < 32 → allowed_at line (31 + i) ≡ is_hex (get_or b i 0)
    unfolding kind_at allows
    blind-byte i l =
        run_allowed blind_run line (31 + i) (omega arith) (omega arith)
        ∙ ap is_hex (sym (get_or-drop 31 line i 0) ∙ ap (λ t. get_or t i 0) (blind_part n p b long))

-- The fields of numbers that fit their digits.
first_and_behind : (holds : ℕ → Bool) (at end : ℕ) → holds at ≡ true → ((k : ℕ) → at < k → k < end → holds k ≡ true) → AllHold holds at end
first_and_behind holds at end first more k low high =
    by_cases (dec_lt at k) (λ past. more k past high) (λ here. let same : at ≡ k = omega arith in subst (λ j. holds j ≡ true) same first)

module _ (n : Numbers) (p b : List ℕ) where
  pub lane_passed : n.lane < 10 ^ 3 → AllHold (allowed_at (line_of n p b)) 0 4
  lane_passed below = first_and_behind _ 0 4 (lane_first n p b ∙ lt-ltb _ _ below) (lane_behind n p b)

  pub time_passed : n.time < 10 ^ 10 → AllHold (allowed_at (line_of n p b)) 4 15
  time_passed below = first_and_behind _ 4 15 (time-first n p b ∙ lt-ltb _ _ below) (time_behind n p b)

  pub class_passed : 0 < n.class → n.class < 10 ^ 1 → AllHold (allowed_at (line_of n p b)) 15 17
  class_passed some below =
      first_and_behind _ 15 17 (class-first n p b ∙ simp (lt-ltb 0 n.class some, lt-ltb n.class (10 ^ 1) below))
      (λ k past l. let here : 16 ≡ k = omega arith in subst (λ j. allowed_at (line_of n p b) j ≡ true) here (class_behind n p b))

  pub class_0 : n.class ≡ 0 → allowed_at (line_of n p b) 15 ≡ false
  class_0 none = class-first n p b ∙ simp (le-ltb 0 n.class (omega arith))

  pub class_too_great : 10 ^ 1 ≤ n.class → allowed_at (line_of n p b) 15 ≡ false
  class_too_great above = class-first n p b ∙ simp (lt-ltb 0 n.class (omega arith), le-ltb n.class (10 ^ 1) above)

  pub axles_passed : n.axles < 10 ^ 2 → AllHold (allowed_at (line_of n p b)) 17 20
  axles_passed below = first_and_behind _ 17 20 (axles-first n p b ∙ lt-ltb _ _ below) (axles_behind n p b)

pub values : Values
values =
    record {
      of_lane = lane_first;
      of_time = time-first;
      of_class = class-first;
      of_axles = axles-first;
      behind = numbers_behind;
      of_comma = plate-comma;
      of_plate = plate-byte;
      of_blind = blind-byte;
    }
