-- The wires of a form that are below m are among the entries of m wires.
use mathlib.Core.Path.{◌≡◌}
use Prim.Native.Nat.{ℕ, ◌*◌}
use native.Mathlib.Omega.{arith}
use Rattle.forms.proofs.shape.Apart.{Apart}
use Rattle.forms.specs.declared.form.Form.TheVariants.{Fixed, Bit, XorOfTwo, XorOfThree, Majority, Choice, Sum, Equal, Difference}
use Rattle.forms.specs.declared.form.Form.{Form}
use Rattle.runs.specs.Reached.{Reached}

pub apart_reached : (m n : ℕ) (f : Form) → n ≡ 8 * m → Apart m f → Reached n f
apart_reached m n (Fixed w b) e h = omega (arith, h.0.within)
apart_reached m n (Bit w) e h = omega (arith, h.within)
apart_reached m n (XorOfTwo x y r) e h = (omega (arith, h.within), omega (arith, h.within), omega (arith, h.within))
apart_reached m n (XorOfThree x y z r) e h = (omega (arith, h.within), omega (arith, h.within), omega (arith, h.within), omega (arith, h.within))
apart_reached m n (Majority x y z r) e h = (omega (arith, h.within), omega (arith, h.within), omega (arith, h.within), omega (arith, h.within))
apart_reached m n (Choice x y z r) e h = (omega (arith, h.within), omega (arith, h.within), omega (arith, h.within), omega (arith, h.within))
apart_reached m n (Sum s c r) e h = tt
apart_reached m n (Equal x y) e h = (omega (arith, h.within), omega (arith, h.within))
apart_reached m n (Difference d bound bits r) e h = tt
