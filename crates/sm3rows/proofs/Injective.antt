-- The packing of a row's answer is injective, as that of refusals is: the low byte tells whether it is a refusal, and each count of a row
-- has a byte above it.
use Rattle.forms.specs.declared.terms.Counts.{Counts}
use Rattle.refusal.specs.declared.outcome.Refusal.{Refusal}
use Rattle.std.specs.Prelude.{Err, Result, Ok}
use mathlib.Core.List.{[], ◌∷◌}
use mathlib.Core.Path.{◌≡◌, ◌∙◌, ap, refl, sym}
use Prim.Native.Nat.{ℕ, ◌/◌, ◌%◌}
use native.Mathlib.Omega.{arith}
use Rattle.refusal.proofs.Injective.{apart, refusal_injective, refused}
use Rattle.refusal.specs.Packing.{above}
use Rattle.sm3rows.specs.Packing.{packed_row}
use Rattle.sm3rows.specs.Small.{SmallRow}

-- an answer that is given
abbrev given : Counts → Result Counts Refusal
given n = Ok n

-- its counts, from its number
given_back : (n : Counts) (v : ℕ) → SmallRow (given n) → v ≡ packed_row (given n)
    → given (record { a = v / 256 % 256; b = v / 256 / 256 % 256; c = v / 256 / 256 / 256 % 256 }) ≡ given n
given_back n v small e =
    let number = apart 0 (above (n.a ∷ n.b ∷ n.c ∷ [])) v (omega arith) e in
    let first = apart n.a (above (n.b ∷ n.c ∷ [])) (v / 256) (omega arith) number.1 in
    let second = apart n.b (above (n.c ∷ [])) (v / 256 / 256) (omega arith) first.1 in
    let third = apart n.c 0 (v / 256 / 256 / 256) (omega arith) second.1 in
    rw (first.0, second.0, third.0)

-- its low byte is 0
low_zero : (n : Counts) → packed_row (given n) % 256 ≡ 0
low_zero n = omega arith

pub row_injective : (a b : Result Counts Refusal) → SmallRow a → SmallRow b → packed_row a ≡ packed_row b → a ≡ b
row_injective (Ok n) (Ok m) p q same = sym (given_back n (packed_row (given n)) p refl) ∙ given_back m (packed_row (given n)) q same
row_injective (Ok n) (Err r) p q same = absurd (refused r (ap (λ v. v % 256) (sym same) ∙ low_zero n))
row_injective (Err r) (Ok n) p q same = absurd (refused r (ap (λ v. v % 256) same ∙ low_zero n))
row_injective (Err r) (Err s) p q same = ap Err (refusal_injective r s same)
