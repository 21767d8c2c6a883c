-- A number at the front of some bytes (document 01, "Refusals in checking order": "decimal numbers of 1 to 9 digits, without
-- leading zeros", each with the byte that ends it).
use Rattle.std.specs.Prelude.{Bool, cond, ◌&&◌, ◌||◌, List, [], ◌∷◌, None, Option, Some, ℕ, ◌+◌, ◌-◌, ◌*◌, eqb, ltb, drop}
use Rattle.text.specs.Decimal.{is_digit}
use Rattle.text.specs.declared.field.Field.{Field}

-- whether c is a digit that may follow n digits of the value v
unfoldable pub continues : ℕ → ℕ → ℕ → Bool
continues v n c = is_digit c && ltb v 100000000 && (eqb n 0 || ltb 0 v)

-- a number v that takes n bytes
abbrev pub found : ℕ → ℕ → Option Field
found v n = Some (record { value = v; bytes = n })

-- what is left, s, of a number of which n digits of the value v stand before; the byte `stop` ends it
unfoldable pub field_from : ℕ → ℕ → ℕ → List ℕ → Option Field
field_from stop v n [] = None
field_from stop v n (c ∷ s) =
    cond (eqb c stop) (cond (eqb n 0) None (found v (n + 1)))
    (cond (continues v n c) (field_from stop (10 * v + (c - 48)) (n + 1) s) None)

unfoldable pub field_of : ℕ → List ℕ → Option Field
field_of stop s = field_from stop 0 0 s

-- what follows a field at the front of s: `next`, of its value, the number of bytes that it takes and the bytes behind it
abbrev pub after : {A : Type 0} → A → Option Field → List ℕ → (ℕ → ℕ → List ℕ → A) → A
after wrong None s next = wrong
after wrong (Some f) s next = next f.value f.bytes (drop f.bytes s)
