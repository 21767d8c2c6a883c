-- How a program prints: chunk after chunk, each at the front of a buffer of n bytes, until nothing is left. That the chunks
-- are together what is to be printed is `PrintsAll`, which proofs/AllPrinted proves.
use Rattle.std.specs.Prelude.{cond, Err, List, [], ◌++◌, ◌≡◌, None, Ok, Option, Some, ℕ, zero, suc, ◌+◌, ◌-◌, ◌≤◌, eqb, ltb, length, take}
use Rattle.circuit.specs.Places.{row_count}
use Rattle.circuit.specs.Ranges.{Allowed}
use Rattle.refusal.specs.LineRefusals.{line_refusal_number}
use Rattle.text.specs.Refused.{refused}
use Rattle.listing.specs.Listing.{header, lines, lines_from, prints}
use Rattle.listing.specs.Request.{request_of, rows}
use Rattle.listing.specs.Rows.{row_room}
use Rattle.listing.specs.Steps.{step_room}
use Rattle.listing.specs.declared.progress.Chunk.{Chunk}
use Rattle.listing.specs.declared.progress.Listing.{Listing}
use Rattle.listing.specs.declared.progress.Listing.TheVariants as listing
use Rattle.listing.specs.declared.progress.Progress.{Progress}
use Rattle.listing.specs.declared.progress.Progress.TheVariants.{Begun, Lines}
use Rattle.listing.specs.declared.request.Front.{Front}
use Rattle.listing.specs.declared.request.Rows.{Rows}

-- how many bytes the lines of a row take at most
abbrev pub room : Listing → ℕ
room listing.Rows = row_room
room listing.Steps = step_room

-- how many of the m rows from k on go into n bytes: one after the other, while there is room for any row
unfoldable pub fitting : ℕ → (ℕ → List ℕ) → ℕ → ℕ → ℕ → ℕ
fitting least of k zero n = 0
fitting least of k (suc m) n = let more = fitting least of (suc k) m (n - length (of k)) in cond (ltb n least) 0 (suc more)

abbrev pub rows_fitting : Listing → ℕ → Rows → ℕ
rows_fitting l n q = fitting (room l) (lines l q.circuit) q.first.0 q.many n

-- behind the first j of some rows
abbrev pub past : Rows → ℕ → Option Progress
past q j = cond (eqb j q.many) None (Some (Lines (rows q.circuit (q.first.0 + j) (q.many - j))))

-- the next chunk, and the progress behind it, if anything is left
abbrev pub chunk_of : Listing → ℕ → Progress → List ℕ
chunk_of l n (Begun (Ok q)) = header l
chunk_of l n (Begun (Err r)) = refused (line_refusal_number r)
chunk_of l n (Lines q) = lines_from (lines l q.circuit) q.first.0 (rows_fitting l n q)

abbrev pub next_of : Listing → ℕ → Progress → Option Progress
next_of l n (Begun (Ok q)) = Some (Lines q)
next_of l n (Begun (Err r)) = None
next_of l n (Lines q) = past q (rows_fitting l n q)

-- what `next_chunk` leaves: the chunk at the front of the buffer, and the progress behind it
pub record Handed (l : Listing) (p : Progress) (before after : List ℕ) (r : Chunk) : Type 0 where
  pub front : take r.bytes after ≡ chunk_of l (length before) p
  pub fits : r.bytes ≤ length after
  pub next : r.next ≡ next_of l (length before) p

-- the rows that are still to be printed exist
abbrev pub RowsExist : Rows → Type 0
RowsExist q = Allowed q.circuit × (q.first.0 + q.many ≤ row_count q.circuit)

abbrev pub Possible : Progress → Type 0
Possible (Begun (Ok q)) = RowsExist q
Possible (Begun (Err r)) = Unit {0}
Possible (Lines q) = RowsExist q

abbrev pub IfPossible : Option Progress → Type 0
IfPossible (Some p) = Possible p
IfPossible None = Unit {0}

-- a run of the loop "while something is left, print the next chunk", from a progress to its end, and the bytes that it prints
pub data Run (l : Listing) (n : ℕ) : Option Progress → List ℕ → Type 0 where
  ended : Run l n None []
  chunk : (p : Progress) {bytes : List ℕ} → Run l n (next_of l n p) bytes → Run l n (Some p) (chunk_of l n p ++ bytes)

-- Of standard input s at most m bytes are read; begun with them, the loop ends and prints what is to be printed for s.
abbrev pub PrintsAll : Type 0
PrintsAll =
    (l : Listing) (t : Front) (n m : ℕ) (s : List ℕ)
    → room l ≤ n
    → 41 ≤ m
    → Run l n (Some (Begun (request_of t (take m s)))) (prints l t s)
