-- A line that is written: its numbers are asked as they come, its plate and its blind where they stand in it, and behind that lane and axles decide
-- as they come too, since they fit their digits. The tail is written first and the numbers before it, which together are the line.
use Rattle.std.specs.Prelude.{Err, Ok}
use mathlib.Core.Bool.{cond}
use mathlib.Core.List.{List, [], ◌∷◌, ◌++◌, append_assoc}
use mathlib.Core.Logic.{by_cases}
use mathlib.Core.Path.{ap, ap₂, refl, subst, sym, ◌∙◌, ◌≡◌}
use Prim.Native.Nat.{ℕ, ◌+◌, ◌-◌, ◌<◌, ◌≤◌}
use native.Mathlib.Decide.{dec_lt}
use native.Mathlib.Omega.{arith}
use borrow.Author.Tests.{eq-eqb}
use lib.Dec.{ltb}
use lib.ListN.{drop, get_or, get_or-append, length, length-append, take}
use lib.Seq.{drop_at, get_or-drop, length-take-le, sets-eq}
use Rattle.encoding.proofs.Written.{written-before, written_as}
use Rattle.encoding.specs.Lowest.{lowest_failing}
use Rattle.encoding.specs.Written.{Written}
use Rattle.passage.proofs.Answers.{bytes_parts}
use Rattle.passage.proofs.Asked.{asked_all, asked_as, asked_moved, asked_parts}
use Rattle.passage.proofs.LineNumbers.{allowed_fit, axles_in_lem, lane_in}
use Rattle.passage.proofs.LineParts.{axles_part, length_part, part_behind}
use Rattle.passage.proofs.PlaceKinds.{first_run, plate_kind, run_allowed}
use Rattle.passage.proofs.Values.{values}
use Rattle.passage.specs.Format.{allowed_at, allows, axles, is_plate_byte, kind_at, lane, number_in}
use Rattle.passage.specs.Front.{Fit, front}
use Rattle.passage.specs.Read.{bytes_answer, low_answer, next}
use Rattle.passage.specs.Runs.{asked, plate_fits, wrong_at}
use Rattle.passage.specs.Write.{line_of, numeral, write_answer}
use Rattle.passage.specs.declared.numbers.Numbers.{Numbers}
use Rattle.refusal.specs.Refusals.{Outcome, done}
use Rattle.refusal.specs.declared.outcome.Refusal.TheVariants.{BufferTooShort}
use Rattle.text.specs.Text.{comma}

-- The answer.
module _ (n : Numbers) (p b : List ℕ) where
  abbrev line : List ℕ
  line = line_of n p b

  abbrev numbers_asked : Outcome
  numbers_asked = asked (allowed_at line) 0 20

  abbrev tail_asked : Outcome
  tail_asked = asked (allowed_at line) 20 43

  pub asked_fit : numbers_asked ≡ done → Fit n
  asked_fit e = allowed_fit n p b (asked_all (allowed_at line) 0 20 e)

  -- the answer about the bytes, part by part
  bytes_asked : bytes_answer line ≡ next (next numbers_asked Err tail_asked) Err (low_answer (number_in lane line) (number_in axles line))
  bytes_asked =
      bytes_parts line
      ∙ ap (λ o. next o Err (low_answer (number_in lane line) (number_in axles line))) (asked_parts (allowed_at line) 0 20 43)

  module _ (room : ℕ) (long-p : length p ≡ 10) (long-b : length b ≡ 32) where
    abbrev Room : Outcome
    Room = cond (ltb room 63) (Err BufferTooShort) done

    past_lengths : {answer : Outcome} → bytes_answer line ≡ answer → write_answer n p b room ≡ next answer Err Room
    unfolding write_answer
    past_lengths e = simp (eq-eqb (length p) 10 long-p, eq-eqb (length b) 32 long-b, e)

    -- part by part, as it is asked
    pub write_parts : write_answer n p b room ≡ next numbers_asked Err (next tail_asked Err (next (low_answer n.lane n.axles) Err Room))
    write_parts = past_lengths bytes_asked ∙ joined numbers_asked refl
      where
        tail_joined : (t low : Outcome) → next (next t Err low) Err Room ≡ next t Err (next low Err Room)
        tail_joined (Ok _) low = refl
        tail_joined (Err r) low = refl

        joined : (o : Outcome) → numbers_asked ≡ o
            → next (next (next o Err tail_asked) Err (low_answer (number_in lane line) (number_in axles line))) Err Room
            ≡ next o Err (next tail_asked Err (next (low_answer n.lane n.axles) Err Room))
        joined (Ok _) fit =
            tail_joined tail_asked (low_answer (number_in lane line) (number_in axles line))
            ∙ ap (λ low. next tail_asked Err (next low Err Room))
            (ap₂ low_answer (lane_in n p b (asked_fit fit)) (axles_in_lem n p b (asked_fit fit)))
        joined (Err r) e = refl

-- The plate by itself: what is wrong in it is wrong in the line, 20 places further on.
pub plate_asked : (n : Numbers) (p b : List ℕ) → length p ≡ 10
    → asked (allowed_at (line_of n p b)) 20 10 ≡ lowest_failing (plate_fits 0 p) (λ i. wrong_at (20 + i)) done 0 10
plate_asked n p b long =
    asked_moved (plate_fits 0 p) (allowed_at (line_of n p b)) 20 0 10 (λ i low high. values.of_plate n p b long i high ∙ plate_kind p i high)

-- The tail by itself.
module _ (n : Numbers) (p b : List ℕ) (long-p : length p ≡ 10) (long-b : length b ≡ 32) {l l' : List ℕ} (room : 63 ≤ length l)
    (written : Written 20 (p ++ (comma ∷ b)) l l') where
  abbrev tail : List ℕ
  tail = p ++ (comma ∷ b)

  tail_size : length tail ≡ 43
  tail_size = omega (arith, length-append p (comma ∷ b))

  tail_stands : drop 20 l' ≡ tail ++ drop (20 + length tail) l
  tail_stands =
      ap (drop 20) (written.left ∙ sets-eq tail l 20 (omega (arith, tail_size)) ∙ append_assoc (take 20 l) tail (drop (20 + length tail) l))
      ∙ drop_at (take 20 l) (tail ++ drop (20 + length tail) l) 20 (length-take-le 20 l (omega arith))

  tail_byte : (k : ℕ) → 20 ≤ k → k < 63 → get_or l' k 0 ≡ get_or (line_of n p b) k 0
  tail_byte k low high =
      let place : 20 + (k - 20) ≡ k = omega arith in
      subst (λ j. get_or l' j 0 ≡ get_or (line_of n p b) j 0) place
      (sym (get_or-drop 20 l' (k - 20) 0)
      ∙ ap (λ s. get_or s (k - 20) 0) tail_stands
      ∙ get_or-append tail (drop (20 + length tail) l) 0 (k - 20) (omega (arith, tail_size))
      ∙ ap (λ s. get_or s (k - 20) 0) (sym (part_behind (axles_part n p b)))
      ∙ get_or-drop 20 (line_of n p b) (k - 20) 0)

  same_allowed : (k : ℕ) → 20 ≤ k → k < 20 + 43 → allowed_at l' k ≡ allowed_at (line_of n p b) k
  unfolding allows
  same_allowed k low high =
      by_cases (dec_lt 20 k)
      (λ past. ap₂ (allows (kind_at k)) (tail_byte (k - 1) (omega arith) (omega arith)) (tail_byte k low (omega arith)))
      (λ first.
      run_allowed first_run l' k low (omega arith)
      ∙ ap is_plate_byte (tail_byte k low (omega arith))
      ∙ sym (run_allowed first_run (line_of n p b) k low (omega arith)))

  pub same_asked : asked (allowed_at l') 20 43 ≡ asked (allowed_at (line_of n p b)) 20 43
  same_asked = asked_as (allowed_at l') (allowed_at (line_of n p b)) 20 43 same_allowed

-- The numbers before it.
-- a number, its comma and some more, and then the rest
one_joined : (n x : ℕ) (more rest : List ℕ) → (numeral n x ++ (comma ∷ more)) ++ rest ≡ numeral n x ++ (comma ∷ (more ++ rest))
one_joined n x more rest = append_assoc (numeral n x) (comma ∷ more) rest

front_joined : (n : Numbers) (p b : List ℕ) → front n ++ (p ++ (comma ∷ b)) ≡ line_of n p b
unfolding front line_of
front_joined n p b =
    let rest : List ℕ = p ++ (comma ∷ b) in
    one_joined 3 n.lane _ rest
    ∙ ap (λ l. numeral 3 n.lane ++ (comma ∷ l))
    (one_joined 10 n.time _ rest
    ∙ ap (λ l. numeral 10 n.time ++ (comma ∷ l))
    (one_joined 1 n.class _ rest
    ∙ ap (λ l. numeral 1 n.class ++ (comma ∷ l)) (one_joined 2 n.axles [] rest)))

length_front : (n : Numbers) → length (front n) ≡ 20
unfolding front
length_front n =
    omega (
      arith,
      length_part 3 n.lane (numeral 10 n.time ++ (comma ∷ (numeral 1 n.class ++ (comma ∷ (numeral 2 n.axles ++ (comma ∷ [])))))),
      length_part 10 n.time (numeral 1 n.class ++ (comma ∷ (numeral 2 n.axles ++ (comma ∷ [])))),
      length_part 1 n.class (numeral 2 n.axles ++ (comma ∷ [])),
      length_part 2 n.axles [],
    )

pub line_written : (n : Numbers) (p b : List ℕ) {l l' l'' : List ℕ} → Written 20 (p ++ (comma ∷ b)) l l' → Written 0 (front n) l' l''
    → Written 0 (line_of n p b) l l''
line_written n p b tail numbers = written_as (front_joined n p b) (written-before 20 (omega (arith, length_front n)) tail numbers)
