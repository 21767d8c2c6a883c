-- The answer to who asks for a row of a circuit, and the bytes that are left (document 01, "Rows" and "Refusals in checking order").
use Rattle.forms.specs.declared.terms.Counts.{Counts}
use Rattle.refusal.specs.declared.outcome.Refusal.{Refusal}
use Rattle.std.specs.Prelude.{cond, List, [], ◌∷◌, ◌++◌, ℕ, ◌*◌, leb, ltb, drop, length, Err, Result, Ok}
use Rattle.circuit.specs.Circuit.{row_at}
use Rattle.circuit.specs.Places.{row_count}
use Rattle.circuit.specs.declared.circuits.Circuit.{Circuit}
use Rattle.forms.specs.Rows.{Row, terms}
use Rattle.forms.specs.TermBytes.{terms_bytes}
use Rattle.refusal.specs.Refusals.{refusal_number, refusal_values}
use Rattle.refusal.specs.declared.outcome.Refusal.TheVariants.{RowOutOfRange, BufferTooShort}

-- "A row is handed over as the terms of A, then B, then C, .. with three counts"
unfoldable pub counted : Row → Result Counts Refusal
counted r = Ok (record { a = length r.A; b = length r.B; c = length r.C })

-- "The buffer to be written is shorter than .. 1,956 for a row": 12 bytes for each of 163 terms
abbrev pub row_bytes : ℕ
row_bytes = 1956

-- for row k and a buffer of `room` bytes: "3. The row number is not below the row count." "4. The buffer to be written is shorter
-- than .."
unfoldable pub given_row : Circuit → ℕ → ℕ → Result Counts Refusal
given_row c k room =
    cond (leb (row_count c) k) (Err RowOutOfRange)
    (cond (ltb room row_bytes) (Err BufferTooShort)
    (counted (row_at c k)))

-- what is left in the buffer: the terms' bytes and the bytes past them, which "keep their value"; "no lent byte changes"
-- on a refusal
unfoldable pub given_left : Result Counts Refusal → Circuit → ℕ → List ℕ → List ℕ
given_left (Ok n) c k out = terms_bytes (terms (row_at c k)) ++ drop (12 * length (terms (row_at c k))) out
given_left (Err r) c k out = out

-- the paper's number of each answer, 0 for none, and its values: the three counts
abbrev pub row_number : Result Counts Refusal → ℕ
row_number (Ok n) = 0
row_number (Err r) = refusal_number r

abbrev pub row_values : Result Counts Refusal → List ℕ
row_values (Ok n) = n.a ∷ n.b ∷ n.c ∷ []
row_values (Err r) = refusal_values r
