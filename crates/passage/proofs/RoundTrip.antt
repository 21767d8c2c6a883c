-- Reading and writing undo each other. Of a line that is written each number fits its digits, so it is read back, and plate and blind stand
-- in it as they are. A line that is read has digits where its numbers stand and commas between its fields, so the line of its fields has
-- the same byte at every place.
use Rattle.refusal.specs.Refusals.{done}
use Rattle.std.specs.Prelude.{Err, Ok}
use mathlib.Core.Bool.{cond, not}
use mathlib.Core.List.{List}
use mathlib.Core.Logic.{◌↔◌}
use mathlib.Core.Path.{◌≡◌, ◌∙◌, ap, ap₂, refl, subst, sym}
use Prim.Native.Nat.{ℕ, ◌+◌, ◌<◌}
use native.Mathlib.Nat.{le_of_eq}
use native.Mathlib.Omega.{arith}
use borrow.Author.Tests.{le-ltb}
use lib.Dec.{eqb, ltb}
use lib.ListN.{drop, get_or, length, length-drop, take}
use lib.Seq.{ext_get_or, get_or-drop, get_or-take, length-take-le, take_all, take_at}
use Rattle.passage.proofs.Answers.{AllAllowed, axles-digits, class-digits, comma-at, done_read, lane-digits, line_right, long_line, read_done, right_allowed, time-digits}
use Rattle.passage.proofs.ByParts.{by_parts}
use Rattle.passage.proofs.LineNumbers.{allowed_fit, axles_in_lem, class_in, lane_in, time_in}
use Rattle.passage.proofs.LineParts.{axles_part, blind_part, class_part, lane_part, length-line, part_at, part_comma, plate_part, time_part}
use Rattle.passage.proofs.Next.{next_done}
use Rattle.passage.proofs.Numerals.{numeral-number}
use Rattle.passage.specs.Format.{axles, blind, bytes_in, class, kind_at, line_length, number_in, plate}
use Rattle.passage.specs.Front.{Fit}
use Rattle.passage.specs.Read.{bytes_answer, numbers_in, read_answer}
use Rattle.passage.specs.RoundTrip.{RoundTrip, line_left}
use Rattle.passage.specs.Write.{line_of, write_answer, write_left}
use Rattle.passage.specs.declared.format.Kind.TheVariants.{Comma}
use Rattle.passage.specs.declared.numbers.Numbers.{Numbers}
use Rattle.refusal.proofs.Tests.{equal_iff, past}
use Rattle.refusal.specs.declared.outcome.Refusal.TheVariants.{BufferTooShort, LineNot63}
use Rattle.text.specs.Text.{comma}

-- a line is written where plate and blind are as long as they have to be, its bytes are right and it has room
write_done : (n : Numbers) (p b : List ℕ) (room : ℕ)
    → (write_answer n p b room ≡ done)
    ↔ ((length p ≡ 10) × ((length b ≡ 32) × ((bytes_answer (line_of n p b) ≡ done) × (cond (ltb room 63) (Err BufferTooShort) done ≡ done))))
unfolding write_answer
write_done n p b room =
    past (not (eqb (length p) 10)) (Err LineNot63) _ done (equal_iff (length p) 10) (λ e. omega arith)
    (past (not (eqb (length b) 32)) (Err LineNot63) _ done (equal_iff (length b) 32) (λ e. omega arith)
    (next_done (bytes_answer (line_of n p b)) (cond (ltb room 63) (Err BufferTooShort) done)))

-- the line at the front of the buffer
left-line : (n : Numbers) (p b out : List ℕ) → write_answer n p b (length out) ≡ done → line_left n p b out ≡ line_of n p b
left-line n p b out e =
    let told = (write_done n p b (length out)).0 e in
    ap (λ r. take line_length (write_left r n p b out)) e
    ∙ take_at (line_of n p b) (drop line_length out) line_length (length-line n p b told.0 told.1.0)

abbrev numbers : ℕ → ℕ → ℕ → ℕ → Numbers
numbers l t c a = record { lane = l; time = t; class = c; axles = a }

-- Reading what was written.
module _ (n : Numbers) (p b : List ℕ) (long-p : length p ≡ 10) (long-b : length b ≡ 32) (right : bytes_answer (line_of n p b) ≡ done) where
  abbrev fit : Fit n
  fit = allowed_fit n p b (λ i low high. right_allowed (line_of n p b) right i low (omega arith))

  numbers_back : numbers_in (line_of n p b) ≡ n
  unfolding numbers_in
  numbers_back =
      ap₂ (λ l t. numbers l t (number_in class (line_of n p b)) (number_in axles (line_of n p b))) (lane_in n p b fit) (time_in n p b fit)
      ∙ ap₂ (numbers n.lane n.time) (class_in n p b fit) (axles_in_lem n p b fit)

  read_back : read_answer (line_of n p b) ≡ Ok n
  read_back = done_read (line_of n p b) (long_line (line_of n p b) (length-line n p b long-p long-b) ∙ right) ∙ ap Ok numbers_back

  plate_back : bytes_in plate (line_of n p b) ≡ p
  plate_back = ap (take 10) (plate_part n p b long-p).stands ∙ take_at p _ 10 long-p

  blind_back : bytes_in blind (line_of n p b) ≡ b
  blind_back = ap (take 32) (blind_part n p b long-p) ∙ take_all 32 b (le_of_eq long-b)

-- Writing what was read.
module _ (s : List ℕ) (long : length s ≡ 63) (right : bytes_answer s ≡ done) where
  abbrev p : List ℕ
  p = bytes_in plate s

  abbrev b : List ℕ
  b = bytes_in blind s

  abbrev again : List ℕ
  again = line_of (numbers_in s) p b

  all : AllAllowed s
  all = right_allowed s right

  long_plate : length p ≡ 10
  long_plate = length-take-le 10 (drop 20 s) (omega (arith, length-drop 20 s))

  long_blind : length b ≡ 32
  long_blind = length-take-le 32 (drop 31 s) (omega (arith, length-drop 31 s))

  -- bytes that stand in the line
  bytes_at : (at m i : ℕ) → i < m → get_or (take m (drop at s)) i 0 ≡ get_or s (at + i) 0
  bytes_at at m i l = get_or-take m (drop at s) i 0 l ∙ get_or-drop at s i 0

  comma-again : (k : ℕ) → k < 63 → kind_at k ≡ Comma → get_or again k 0 ≡ comma → get_or again k 0 ≡ get_or s k 0
  comma-again k l kind e = e ∙ sym (comma-at s all k l kind)

  every_byte : (k : ℕ) → k < 63 → get_or again k 0 ≡ get_or s k 0
  unfolding kind_at numbers_in
  every_byte =
      by_parts (λ k. get_or again k 0 ≡ get_or s k 0)
      (λ i l. part_at (lane_part (numbers_in s) p b) i l ∙ numeral-number s 0 3 (lane-digits s all) i l)
      (comma-again 3 (omega arith) refl (part_comma (lane_part (numbers_in s) p b)))
      (λ i l. part_at (time_part (numbers_in s) p b) i l ∙ numeral-number s 4 10 (time-digits s all) i l)
      (comma-again 14 (omega arith) refl (part_comma (time_part (numbers_in s) p b)))
      (λ i l. part_at (class_part (numbers_in s) p b) i l ∙ numeral-number s 15 1 (class-digits s all) i l)
      (comma-again 16 (omega arith) refl (part_comma (class_part (numbers_in s) p b)))
      (λ i l. part_at (axles_part (numbers_in s) p b) i l ∙ numeral-number s 17 2 (axles-digits s all) i l)
      (comma-again 19 (omega arith) refl (part_comma (axles_part (numbers_in s) p b)))
      (λ i l. part_at (plate_part (numbers_in s) p b long_plate) i l ∙ bytes_at 20 10 i l)
      (comma-again 30 (omega arith) refl (part_comma (plate_part (numbers_in s) p b long_plate)))
      (λ i l.
      sym (get_or-drop 31 again i 0) ∙ ap (λ t. get_or t i 0) (blind_part (numbers_in s) p b long_plate) ∙ bytes_at 31 32 i l)

  line-again : again ≡ s
  line-again =
      let size : length again ≡ 63 = length-line (numbers_in s) p b long_plate long_blind in
      ext_get_or 0 again s (size ∙ sym long) (λ k l. every_byte k (omega arith))

pub round_trip : RoundTrip
round_trip =
    record {
      read-written = λ n p b out e.
          let told = (write_done n p b (length out)).0 e in
          let line = left-line n p b out e in (
            ap read_answer line ∙ read_back n p b told.0 told.1.0 told.1.1.0,
            ap (bytes_in plate) line ∙ plate_back n p b told.0 told.1.0 told.1.1.0,
            ap (bytes_in blind) line ∙ blind_back n p b told.0 told.1.0 told.1.1.0,
          );
      written_read = λ s n out e room.
          let read = read_done s n e in
          let told = (line_right s).0 read.0 in
          let line = line-again s told.0 told.1 in
          let written : write_answer (numbers_in s) (bytes_in plate s) (bytes_in blind s) (length out) ≡ done =
          (write_done (numbers_in s) (bytes_in plate s) (bytes_in blind s) (length out)).1
          (long_plate s told.0 told.1, (long_blind s told.0 told.1, (ap bytes_answer line ∙ told.1, simp (le-ltb (length out) 63 room)))) in
          subst
          (λ m. (write_answer m (bytes_in plate s) (bytes_in blind s) (length out) ≡ done) × (line_left m (bytes_in plate s) (bytes_in blind s) out ≡ s))
          read.1
          (written, left-line (numbers_in s) (bytes_in plate s) (bytes_in blind s) out written ∙ line);
    }
