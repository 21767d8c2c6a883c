-- Which wires a form reaches, where its row is judged by the form: it is no sum and no difference.
use Rattle.std.specs.Prelude.{ℕ, ◌+◌, ◌*◌, ◌≤◌}
use Rattle.forms.specs.declared.form.Form.TheVariants.{Fixed, Bit, XorOfTwo, XorOfThree, Majority, Choice, Sum, Equal, Difference}
use Rattle.forms.specs.declared.form.Form.{Form}

-- its wires are among n bytes of entries
abbrev pub Reached : ℕ → Form → Type 0
Reached n (Fixed w b) = 8 * w.0 + 8 ≤ n
Reached n (Bit w) = 8 * w.0 + 8 ≤ n
Reached n (XorOfTwo x y r) = (8 * x.0 + 8 ≤ n) × (8 * y.0 + 8 ≤ n) × (8 * r.0 + 8 ≤ n)
Reached n (XorOfThree x y z r) = (8 * x.0 + 8 ≤ n) × (8 * y.0 + 8 ≤ n) × (8 * z.0 + 8 ≤ n) × (8 * r.0 + 8 ≤ n)
Reached n (Majority x y z r) = (8 * x.0 + 8 ≤ n) × (8 * y.0 + 8 ≤ n) × (8 * z.0 + 8 ≤ n) × (8 * r.0 + 8 ≤ n)
Reached n (Choice x y z r) = (8 * x.0 + 8 ≤ n) × (8 * y.0 + 8 ≤ n) × (8 * z.0 + 8 ≤ n) × (8 * r.0 + 8 ≤ n)
Reached n (Sum s c r) = Unit {0}
Reached n (Equal x y) = (8 * x.0 + 8 ≤ n) × (8 * y.0 + 8 ≤ n)
Reached n (Difference d bound bits r) = Unit {0}
