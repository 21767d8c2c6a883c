-- The answer of `read` (document 02, request 3).
use Rattle.refusal.specs.Refusals.{Outcome, done}
use Rattle.std.specs.Prelude.{cond, not, ◌||◌, List, ℕ, eqb, ltb, length, Err, Ok, Result}
use Rattle.encoding.specs.Lowest.{lowest_failing}
use Rattle.passage.specs.Format.{allowed_at, axles, class, lane, line_length, number_in, time}
use Rattle.passage.specs.declared.numbers.Numbers.{Numbers}
use Rattle.refusal.specs.declared.outcome.Refusal.TheVariants.{LaneOrAxlesTooLow, LineNot63, WrongByte}
use Rattle.refusal.specs.declared.outcome.Refusal.{Refusal}

-- what comes next where nothing was refused
abbrev pub next : {A : Type 0} → Outcome → (Refusal → A) → A → A
next (Ok _) refuse goOn = goOn
next (Err r) refuse goOn = refuse r

-- "17, lane 000 or axles below 02"
abbrev pub low_answer : ℕ → ℕ → Outcome
low_answer lane axles = cond (eqb lane 0 || ltb axles 2) (Err LaneOrAxlesTooLow) done

-- 16 and 17: the answer about the 63 bytes of a line
unfoldable pub bytes_answer : List ℕ → Outcome
bytes_answer s =
    -- "16, a byte .. that its place does not allow (lowest byte returned, from 0 ..), after 15"
    lowest_failing (allowed_at s) (λ k. Err (WrongByte (record { 0 = k })))
    -- 17, "after 16"
    (low_answer (number_in lane s) (number_in axles s))
    0 line_length

-- what is asked of a line that is handed over
unfoldable pub line_answer : List ℕ → Outcome
line_answer s =
    -- "15, not 63 bytes, after 1"
    cond (not (eqb (length s) line_length)) (Err LineNot63) (bytes_answer s)

-- the numbers of a line's fields
unfoldable pub numbers_in : List ℕ → Numbers
numbers_in s =
    record { lane = number_in lane s; time = number_in time s; class = number_in class s; axles = number_in axles s }

-- what is read: the numbers; "plate and blind [are] their bytes in the line"
unfoldable pub read_answer : List ℕ → Result Numbers Refusal
read_answer s = next (line_answer s) Err (Ok (numbers_in s))
