-- A term's coefficient (document 02, request 7).
use Rattle.std.specs.Prelude.{ℕ, ◌-◌, ◌/◌, cond, ℤ, pos, ◌-ℤ◌, nat_le}
use Rattle.field.specs.Field.{p}
use Rattle.forms.specs.declared.form.Term.{Term}

-- the highest number that is given as it is
abbrev pub half : ℕ
half = (p - 1) / 2

-- "A coefficient above (p - 1) / 2 is given minus p": the signed number of a residue k
unfoldable pub signed : ℕ → ℤ
signed k = cond (nat_le k half) (pos k) (pos k -ℤ pos p)

-- the coefficient that a term has wherever it is given or counted, in row, listing and check
abbrev pub coefficient : Term → ℤ
coefficient t = signed t.residue
