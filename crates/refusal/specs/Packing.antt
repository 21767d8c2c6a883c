-- The answer toward a C host: one 64-bit number (docs/HOST.md; document 01, "The product": "Toward the host an answer of
-- several numbers is one 64-bit number").
use Rattle.std.specs.Prelude.{List, [], ◌∷◌, ℕ, ◌+◌, ◌*◌}
use Rattle.refusal.specs.Refusals.{Outcome, outcome_number, outcome_values}

-- the values one above the other, 8 bits apart
abbrev pub above : List ℕ → ℕ
above [] = 0
above (v ∷ vs) = v + 256 * above vs

-- the refusal's number in the low byte, 0 for none, and the values above it
abbrev pub packed : ℕ → List ℕ → ℕ
packed number values = number + 256 * above values

-- .. for an operation that hands nothing back
abbrev pub packed_outcome : Outcome → ℕ
packed_outcome o = packed (outcome_number o) (outcome_values o)
