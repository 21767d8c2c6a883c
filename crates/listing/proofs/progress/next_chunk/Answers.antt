-- Each progress has its own way to the next chunk; the rows that are left behind it exist.
use mathlib.Core.Path.{subst, sym}
use mathlib.Core.List.{List}
use Prim.Native.Nat.{ℕ}
use lib.ListN.{length}
use Rattle.listing.specs.Progress.{Handed, IfPossible, Possible}
use Rattle.listing.specs.declared.progress.Chunk.{Chunk}
use Rattle.listing.specs.declared.progress.Listing.{Listing}
use Rattle.listing.specs.declared.progress.Progress.{Progress}
use Rattle.listing.proofs.AllPrinted.{possible_next}
use Rattle.listing.proofs.progress.next_chunk.Goals as goal

with_rows :
    {l : Listing} {p : Progress} {before after : List ℕ} {r : Chunk}
    → Possible p
    → Handed l p before after r
    → Handed l p before after r × IfPossible r.next
with_rows {l} {p} {before} exist h = (h, subst IfPossible (sym h.next) (possible_next l (length before) p exist))

pub fill-requires : goal.fill-requires
fill-requires c =
    let pre = c.requires in
    (pre.0, rw c.in-Lines.is at pre.1)

pub returns-in-Begun : goal.returns-in-Begun
returns-in-Begun c =
    with_rows c.requires.1 (rw c.in-Begun.is c.first_chunk.ensures)

pub returns-in-Lines : goal.returns-in-Lines
returns-in-Lines c =
    with_rows c.requires.1 (rw c.in-Lines.is c.fill.ensures)
