-- The rows of forms, told by the entries of an assignment that are below the prime, with 1 on wire 0: each is satisfied where they are what its form makes them.
use mathlib.Core.Path.{◌≡◌, subst, sym}
use Prim.Native.Nat.{ℕ, ◌+◌, ◌-◌, ◌*◌, ◌/◌, ◌%◌, ◌<◌}
use native.Mathlib.Omega.{arith}
use Rattle.assignment.specs.Assignment.{entry}
use Rattle.forms.proofs.exact.Forms as rows
use Rattle.forms.proofs.exact.Runs.{Judged}
use Rattle.forms.specs.Rows.{Satisfied, row_of}
use Rattle.forms.specs.Terms.{Fit}
use Rattle.forms.specs.declared.form.Form.TheVariants.{Bit, Choice, Equal, Fixed, Majority, XorOfThree, XorOfTwo}
use Rattle.forms.specs.declared.form.Form.{Form}
use Rattle.refusal.specs.declared.numbers.WireNumber.{WireNumber}
use Rattle.assignment.specs.Bounded.{BelowPrime}
use mathlib.Core.List.{List}

module _ (a : List ℕ) (one : entry a 0 ≡ 1) (below : BelowPrime a) where
  -- its entries
  abbrev at : ℕ → ℕ
  at = entry a

  -- .. are below the prime, with 1 on wire 0
  pub judged : Judged at
  judged = record { one = one; below = below.each }

  -- the row of a form that is told
  row_told : {f g : Form} → f ≡ g → Satisfied at (row_of g) → Satisfied at (row_of f)
  row_told e = subst (λ (f : Form). Satisfied at (row_of f)) (sym e)

  module _ (f : Form) where
    pub fixed_holds : {w : WireNumber} {b : ℕ} → f ≡ Fixed w b → Fit f → at w.0 ≡ b → Satisfied at (row_of f)
    fixed_holds e fit same = row_told e ((rows.fixed_row _ judged _ _ (subst Fit e fit)).1 same)

    pub bit_holds : {w : WireNumber} → f ≡ Bit w → at w.0 < 2 → Satisfied at (row_of f)
    bit_holds e below = row_told e ((rows.bit-row _ judged _).1 below)

    pub equal_holds : {x y : WireNumber} → f ≡ Equal x y → at x.0 ≡ at y.0 → Satisfied at (row_of f)
    equal_holds e same = row_told e ((rows.equal_row _ judged _ _).1 same)

    pub xor_of_two_holds : {x y r : WireNumber} → f ≡ XorOfTwo x y r → at x.0 < 2 → at y.0 < 2 → at r.0 ≡ (at x.0 + at y.0 + 0) % 2
        → Satisfied at (row_of f)
    xor_of_two_holds {x} {y} {r} e hx hy same = row_told e ((rows.xor_two_row _ judged x y r hx hy).1 (omega arith))

    pub xor_of_three_holds : {x y z r : WireNumber} → f ≡ XorOfThree x y z r → at x.0 < 2 → at y.0 < 2 → at z.0 < 2
        → at r.0 ≡ (at x.0 + at y.0 + at z.0) % 2 → Satisfied at (row_of f)
    xor_of_three_holds {x} {y} {z} {r} e hx hy hz same = row_told e ((rows.xor_three_row _ judged x y r hx hy z hz (omega arith)).1 (omega arith))

    pub majority_holds : {x y z r : WireNumber} → f ≡ Majority x y z r → at x.0 < 2 → at y.0 < 2 → at z.0 < 2
        → at r.0 ≡ (at x.0 + at y.0 + at z.0) / 2 → Satisfied at (row_of f)
    majority_holds {x} {y} {z} {r} e hx hy hz same = row_told e ((rows.majority-row _ judged x y r hx hy z hz (omega arith)).1 (omega arith))

    pub choice_holds : {x y z r : WireNumber} → f ≡ Choice x y z r → at x.0 < 2 → at y.0 < 2 → at z.0 < 2
        → at r.0 ≡ at x.0 * at y.0 + (1 - at x.0) * at z.0 → Satisfied at (row_of f)
    choice_holds {x} {y} {z} {r} e hx hy hz same = row_told e ((rows.choice-row _ judged x y r hx hy z hz).1 same)
