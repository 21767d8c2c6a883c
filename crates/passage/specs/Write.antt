-- The answer of `write` and the bytes that it leaves (document 02, request 3).
use Rattle.std.specs.Prelude.{cond, not, List, [], ◌∷◌, ◌++◌, ℕ, zero, suc, ◌/◌, ◌%◌, eqb, ltb, drop, length, Err}
use Rattle.passage.specs.Format.{axles, blind, class, lane, line_length, plate, time}
use Rattle.passage.specs.Read.{bytes_answer, next}
use Rattle.passage.specs.declared.numbers.Numbers.{Numbers}
use Rattle.refusal.specs.Refusals.{left, Outcome, done}
use Rattle.refusal.specs.declared.outcome.Refusal.TheVariants.{BufferTooShort, LineNot63}
use Rattle.text.specs.Decimal.{digit}
use Rattle.text.specs.Text.{comma}

-- x in n digits, with leading zeros. The first takes what the others leave, so it is no digit where x is "too great for its digits"
unfoldable pub numeral : ℕ → ℕ → List ℕ
numeral zero x = []
numeral (suc zero) x = digit x ∷ []
numeral (suc (suc n)) x = numeral (suc n) (x / 10) ++ (digit (x % 10) ∷ [])

-- the line of the numbers, the plate p and the blind b, "parted by commas"
unfoldable pub line_of : Numbers → List ℕ → List ℕ → List ℕ
line_of n p b =
    numeral lane.many n.lane ++ (comma ∷ (numeral time.many n.time ++ (comma ∷ (numeral class.many n.class
    ++ (comma ∷ (numeral axles.many n.axles ++ (comma ∷ (p ++ (comma ∷ b)))))))))

-- for the numbers, the plate p, the blind b and a buffer of `room` bytes
unfoldable pub write_answer : Numbers → List ℕ → List ℕ → ℕ → Outcome
write_answer n p b room =
    -- "15, not 63 bytes": the line is as long as it has to be where plate and blind are
    cond (not (eqb (length p) plate.many)) (Err LineNot63)
    (cond (not (eqb (length b) blind.many)) (Err LineNot63)
    -- "16, a byte, or in writing a field's value, that its place does not allow (.. in writing, a number too great for its digits, or
    -- class 0, gives its field's first byte)": what place allows which value says `Values` of specs/Values; and 17
    (next (bytes_answer (line_of n p b)) Err
    -- "From here refusal 4 also covers any other written buffer shorter than its result."
    (cond (ltb room line_length) (Err BufferTooShort) done)))

-- what is left in the buffer: the line and the bytes past it, which "keep their value"
abbrev pub write_left : Outcome → Numbers → List ℕ → List ℕ → List ℕ → List ℕ
write_left r n p b out = left r (line_of n p b ++ drop line_length out) out
