-- "Reading and writing undo each other" (document 02, request 3), said of the bytes that a call of `write` leaves and of the definitions
-- that the contracts cite.
use Rattle.refusal.specs.Refusals.{done}
use Rattle.std.specs.Prelude.{List, ◌≡◌, ℕ, ◌≤◌, length, take, Ok}
use Rattle.passage.specs.Format.{blind, bytes_in, line_length, plate}
use Rattle.passage.specs.Read.{read_answer}
use Rattle.passage.specs.Write.{write_answer, write_left}
use Rattle.passage.specs.declared.numbers.Numbers.{Numbers}

-- the line that `write` leaves at the front of the buffer
abbrev pub line_left : Numbers → List ℕ → List ℕ → List ℕ → List ℕ
line_left n p b out = take line_length (write_left (write_answer n p b (length out)) n p b out)

pub record RoundTrip : Type 0 where
  -- reading what was written gives the fields
  pub read-written : (n : Numbers) (p b out : List ℕ) → write_answer n p b (length out) ≡ done
      → (read_answer (line_left n p b out) ≡ Ok n) × (bytes_in plate (line_left n p b out) ≡ p) × (bytes_in blind (line_left n p b out) ≡ b)
  -- writing what was read gives the line
  pub written_read : (s : List ℕ) (n : Numbers) (out : List ℕ) → read_answer s ≡ Ok n → line_length ≤ length out
      → (write_answer n (bytes_in plate s) (bytes_in blind s) (length out) ≡ done) × (line_left n (bytes_in plate s) (bytes_in blind s) out ≡ s)
