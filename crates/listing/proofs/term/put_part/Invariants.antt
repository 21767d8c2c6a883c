-- The lines of the terms so far are written, each of at most 66 bytes.
use Prim.Native.Nat.{◌+◌, ◌*◌, ◌≤◌}
use lib.ListN.{take}
use Rattle.text.specs.Put.{Put}
use Rattle.listing.specs.Rows.{line_room, part_lines}
use Rattle.listing.proofs.term.put_part.Given as goal

abbrev pub invariant-loop-term : goal.invariant-loop-term
invariant-loop-term l =
    (l.end ≤ l.at + line_room * l.term-index) × Put l.initial.out l.at (part_lines l.row.0 l.part (take l.term-index l.terms)) l.out l.end
