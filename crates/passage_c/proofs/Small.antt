-- The operations' answers have room in one number. A byte that is named is below 63, and the numbers of a line that is read have no more
-- digits than their fields.
use Rattle.refusal.specs.Refusals.{Outcome, done}
use Rattle.std.specs.Prelude.{Err, Ok}
use mathlib.Core.Bool.{not, ◌||◌}
use mathlib.Core.List.{List}
use mathlib.Core.Path.{◌≡◌, refl}
use Prim.Native.Nat.{ℕ, ◌*◌}
use native.Mathlib.Omega.{arith}
use lib.Dec.{eqb, ltb}
use lib.ListN.{length}
use Rattle.circuit.specs.Wires.{wire_count}
use Rattle.circuit.specs.declared.circuits.Circuit.TheVariants.{Record}
use Rattle.encoding.proofs.Lowest.{by_lowest}
use Rattle.passage.proofs.Answers.{line_right, right_fit}
use Rattle.passage.specs.Format.{axles, lane, line_length, number_in}
use Rattle.passage.specs.Front.{Fit}
use Rattle.passage.specs.Read.{bytes_answer, line_answer, next, numbers_in, read_answer}
use Rattle.passage.specs.Seal.{line_bits, seal_answer}
use Rattle.passage.specs.Write.{line_of, write_answer}
use Rattle.passage.specs.declared.numbers.Numbers.{Numbers}
use Rattle.passage_c.specs.Small.{SmallReading}
use Rattle.refusal.proofs.Small.{Small, bare, done_small, room_small, tested}

bytes_small : (s : List ℕ) → Small (bytes_answer s)
unfolding bytes_answer
bytes_small s =
    by_lowest _ _ Small _ 0 line_length
    (λ _. tested Small (eqb (number_in lane s) 0 || ltb (number_in axles s) 2) (bare refl) (λ _. done_small))
    (λ j low. record { room = omega (arith, low.below) })

line_small : (s : List ℕ) → Small (line_answer s)
unfolding line_answer
line_small s = tested Small (not (eqb (length s) line_length)) (bare refl) (λ _. bytes_small s)

next_small : (o more : Outcome) → Small o → Small more → Small (next o Err more)
next_small (Ok _) more first small = small
next_small (Err r) more first small = first

pub seal_small : (s : List ℕ) (d a : ℕ) → Small (seal_answer s d a)
unfolding seal_answer
seal_small s d a = next_small (line_answer s) _ (line_small s) (room_small (ltb d 32 || ltb a (8 * wire_count (Record line_bits))))

pub write_small : (n : Numbers) (p b : List ℕ) (room : ℕ) → Small (write_answer n p b room)
unfolding write_answer
write_small n p b room =
    tested Small (not (eqb (length p) 10)) (bare refl)
    (λ _.
    tested Small (not (eqb (length b) 32)) (bare refl)
    (λ _. next_small (bytes_answer (line_of n p b)) _ (bytes_small (line_of n p b)) (room_small (ltb room line_length))))

reading_small : (o : Outcome) (m : Numbers) → Small o → (o ≡ done → Fit m) → SmallReading (next o Err (Ok m))
reading_small (Ok _) m small fit = fit refl
reading_small (Err r) m small fit = small.room

pub read_small : (s : List ℕ) → SmallReading (read_answer s)
unfolding read_answer
read_small s = reading_small (line_answer s) (numbers_in s) (line_small s) (λ e. right_fit s ((line_right s).0 e).1)
