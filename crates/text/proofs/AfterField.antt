-- Reading goes on after a field exactly with its value, the bytes that it takes and what stands behind it.
use mathlib.Core.List.{List, [], ◌∷◌, ◌++◌}
use mathlib.Core.Path.{◌≡◌, refl, sym, ap, ◌∙◌}
use Prim.Native.Nat.{ℕ, ◌≤◌, ◌<◌}
use native.Mathlib.Omega.{arith}
use lib.ListN.{length, length-append}
use lib.Seq.{drop-append_seam}
use Rattle.std.specs.Prelude.{None, Option, Some}
use Rattle.text.specs.Decimal.{decimal, field}
use Rattle.text.specs.Field.{after, field_of, found}
use Rattle.text.specs.declared.field.Field.{Field}
use Rattle.text.proofs.Digits.{length-decimal}
use Rattle.text.proofs.FieldRight.{Begins, field-begins, field-read, field-rest}

-- a field takes at most 10 bytes, and no more than there are
pub length-field : (v stop : ℕ) → v < 1000000000 → length (field v stop) ≤ 10
unfolding field
length-field v stop below = omega (arith, length-decimal 8 v below, length-append (decimal v) (stop ∷ []))

pub field-within : (stop : ℕ) (s : List ℕ) (v m : ℕ) → field_of stop s ≡ found v m → m ≤ length s
field-within stop s v m e =
    let begins = field-begins stop s v m e in
    omega (arith, begins.bytes, ap length begins.is, length-append (field v stop) begins.rest)

-- a field was read, and the answer r came of what stands behind it
pub record Past {A : Type 0} (stop : ℕ) (next : ℕ → ℕ → List ℕ → A) (s : List ℕ) (r : A) : Type 0 where
  pub v : ℕ
  pub m : ℕ
  pub begins : Begins stop s v m
  pub on : next v m begins.rest ≡ r

module _ {A : Type 0} (wrong : A) (stop : ℕ) (next : ℕ → ℕ → List ℕ → A) where
  pub goes_on :
      stop < 48
      → (v : ℕ)
      → v < 1000000000
      → (t : List ℕ)
      → after wrong (field_of stop (field v stop ++ t)) (field v stop ++ t) next ≡ next v (length (field v stop)) t
  goes_on apart v below t =
      ap (λ (f : Option Field). after wrong f (field v stop ++ t) next) (field-read stop apart v below t)
      ∙ ap (next v (length (field v stop))) (drop-append_seam (field v stop) t)

  pub past : (s : List ℕ) (r : A) → (wrong ≡ r → ⊥) → after wrong (field_of stop s) s next ≡ r → Past stop next s r
  past s r other e = by (field_of stop s) refl e
    where
      by : (f : Option Field) → field_of stop s ≡ f → after wrong f s next ≡ r → Past stop next s r
      by (Some f) read e =
          let begins = field-begins stop s f.value f.bytes read in
          record { v = f.value; m = f.bytes; begins = begins; on = ap (next f.value f.bytes) (sym (field-rest begins)) ∙ e }
      by None read e = absurd (other e)
