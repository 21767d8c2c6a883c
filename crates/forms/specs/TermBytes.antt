-- The bytes of terms (document 01, "Rows").
use Rattle.std.specs.Prelude.{ℕ, List, [], ◌∷◌, ◌++◌}
use Rattle.encoding.specs.Bytes.{least_first, twos_complement}
use Rattle.forms.specs.Coefficients.{coefficient}
use Rattle.forms.specs.declared.form.Term.{Term}

-- "12 bytes each (wire 4, coefficient 8, least byte first)", the coefficient "as 8 bytes two's complement" (document 02, request 7)
unfoldable pub term_bytes : Term → List ℕ
term_bytes t = least_first 4 t.wire.0 ++ twos_complement 8 (coefficient t)

unfoldable pub terms_bytes : List Term → List ℕ
terms_bytes [] = []
terms_bytes (t ∷ ts) = term_bytes t ++ terms_bytes ts
