-- Wires and words on them (document 01, "Wires").
use Rattle.std.specs.Prelude.{ℕ, ◌+◌, ◌%◌}
use Rattle.forms.specs.declared.position.WordPosition.{WordPosition}
use Rattle.refusal.specs.declared.numbers.WireNumber.{WireNumber}

-- "Wire 0 is the constant 1"
abbrev pub one : WireNumber
one = record { 0 = 0 }

-- the wire that is i past w
abbrev pub at : WireNumber → ℕ → WireNumber
at w i = record { 0 = w.0 + i }

-- "A turned word is the same wires in another order": a word that stands from wire w on, and the same rotated by k more
abbrev pub standing : ℕ → WordPosition
standing w = record { first = record { 0 = w }; rotation = 0 }

abbrev pub rotated_by : ℕ → WordPosition → WordPosition
rotated_by k x = record { first = x.first; rotation = (x.rotation + k) % 32 }

-- the wire of bit i
abbrev pub wire_at : WordPosition → ℕ → WireNumber
wire_at x i = at x.first ((i + x.rotation) % 32)
