-- Records of whole bytes: what a line asks for of a record of L bytes, in that unit, is what the definitions give for 8 L bits
-- (document 02, request 2).
use Rattle.std.specs.Prelude.{cond, ◌≡◌, Ok, ℕ, ◌+◌, ◌*◌, ltb}
use Rattle.circuit.specs.WholeBytes.{rows_of_bytes}
use Rattle.circuit.specs.declared.circuits.Circuit.TheVariants.{Record}
use Rattle.listing.specs.Request.{checked, refused, rows}
use Rattle.refusal.specs.declared.outcome.Refusal.TheVariants.{LengthOutOfRange, RowOutOfRange}
use Rattle.sm3.specs.WholeBytes.{most_bytes}

-- "2. The record length is above 1,015." "3. .. (in the program: first row plus how many exceeds the count)"
abbrev pub WholeBytes : Type 0
WholeBytes =
    (L f h : ℕ)
    → checked (8 * L) f h
    ≡ cond (ltb most_bytes L) (refused LengthOutOfRange)
    (cond (ltb (rows_of_bytes L) (f + h)) (refused RowOutOfRange)
    (Ok (rows (Record (8 * L)) f h)))
