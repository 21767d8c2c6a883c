-- Where the fields stand in the line that is written from them: behind each field and its comma the next one begins.
use mathlib.Core.List.{List, [], ◌∷◌, ◌++◌, append_assoc}
use mathlib.Core.Path.{◌≡◌, ◌∙◌, ap, refl, sym}
use Prim.Native.Nat.{ℕ, ◌+◌, ◌<◌}
use native.Mathlib.Omega.{arith}
use lib.ListN.{get_or-append, drop, get_or, length, length-append}
use lib.Seq.{drop_at, drop-drop, get_or_at, get_or-drop}
use Rattle.passage.proofs.Numerals.{length-numeral}
use Rattle.passage.specs.Format.{axles, class, line_length, time}
use Rattle.passage.specs.Write.{line_of, numeral}
use Rattle.passage.specs.declared.numbers.Numbers.{Numbers}
use Rattle.text.specs.Text.{comma}

-- in s the bytes xs stand from place `at` on, and then a comma and the bytes `rest`
pub record Part (s : List ℕ) (at m : ℕ) (xs rest : List ℕ) : Type 0 where
  pub size : length xs ≡ m
  pub stands : drop at s ≡ xs ++ (comma ∷ rest)

module _ {s : List ℕ} {at m : ℕ} {xs rest : List ℕ} (part : Part s at m xs rest) where
  pub part_at : (i : ℕ) → i < m → get_or s (at + i) 0 ≡ get_or xs i 0
  part_at i l =
      sym (get_or-drop at s i 0)
      ∙ ap (λ t. get_or t i 0) part.stands
      ∙ get_or-append xs (comma ∷ rest) 0 i (omega (arith, part.size))

  pub part_comma : get_or s (at + m) 0 ≡ comma
  part_comma = sym (get_or-drop at s m 0) ∙ ap (λ t. get_or t m 0) part.stands ∙ get_or_at xs comma rest 0 m part.size

  -- what stands behind the comma
  pub part_behind : drop (at + (m + 1)) s ≡ rest
  part_behind =
      sym (drop-drop (m + 1) at s)
      ∙ ap (drop (m + 1)) (part.stands ∙ sym (append_assoc xs (comma ∷ []) rest))
      ∙ drop_at (xs ++ (comma ∷ [])) rest (m + 1) (omega (arith, length-append xs (comma ∷ []), part.size))

-- how long a number, its comma and some more are
pub length_part : (n x : ℕ) (more : List ℕ) → length (numeral n x ++ (comma ∷ more)) ≡ n + (1 + length more)
length_part n x more = omega (arith, length-append (numeral n x) (comma ∷ more), length-numeral n x)

module _ (n : Numbers) (p b : List ℕ) where
  -- what comes behind lane, time, class and axles
  abbrev behind_axles : List ℕ
  behind_axles = p ++ (comma ∷ b)

  abbrev behind_class : List ℕ
  behind_class = numeral axles.many n.axles ++ (comma ∷ behind_axles)

  abbrev behind_time : List ℕ
  behind_time = numeral class.many n.class ++ (comma ∷ behind_class)

  abbrev behind_lane : List ℕ
  behind_lane = numeral time.many n.time ++ (comma ∷ behind_time)

  pub lane_part : Part (line_of n p b) 0 3 (numeral 3 n.lane) behind_lane
  unfolding line_of
  lane_part = record { size = length-numeral 3 n.lane; stands = refl }

  pub time_part : Part (line_of n p b) 4 10 (numeral 10 n.time) behind_time
  time_part = record { size = length-numeral 10 n.time; stands = part_behind lane_part }

  pub class_part : Part (line_of n p b) 15 1 (numeral 1 n.class) behind_class
  class_part = record { size = length-numeral 1 n.class; stands = part_behind time_part }

  pub axles_part : Part (line_of n p b) 17 2 (numeral 2 n.axles) behind_axles
  axles_part = record { size = length-numeral 2 n.axles; stands = part_behind class_part }

  module _ (long : length p ≡ 10) where
    pub plate_part : Part (line_of n p b) 20 10 p b
    plate_part = record { size = long; stands = part_behind axles_part }

    pub blind_part : drop 31 (line_of n p b) ≡ b
    blind_part = part_behind plate_part

    pub length-line : length b ≡ 32 → length (line_of n p b) ≡ line_length
    unfolding line_of
    length-line short =
        omega (
          arith,
          length_part 3 n.lane behind_lane,
          length_part 10 n.time behind_time,
          length_part 1 n.class behind_class,
          length_part 2 n.axles behind_axles,
          length-append p (comma ∷ b),
        )
