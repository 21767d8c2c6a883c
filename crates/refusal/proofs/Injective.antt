-- The packing is injective: an answer can be read back from its number. The low byte tells which refusal it is, and its value
-- stands above.
use Rattle.std.specs.Prelude.{Err, Ok}
use mathlib.Core.Bool.{cond}
use mathlib.Core.Path.{◌≡◌, ap, refl, sym, ◌∙◌}
use Prim.Native.Nat.{ℕ, ◌+◌, ◌*◌, ◌/◌, ◌%◌, ◌<◌}
use native.Mathlib.Omega.{arith}
use lib.Dec.{eqb}
use Rattle.refusal.specs.Packing.{packed, packed_outcome}
use Rattle.refusal.specs.Refusals.{refusal_number, refusal_values, Outcome}
use Rattle.refusal.specs.declared.outcome.Refusal.{Refusal}
use Rattle.refusal.specs.declared.outcome.Refusal.TheVariants.{LengthOutOfRange, RowOutOfRange, BufferTooShort, DigestNot32, WrongLength, WireZero, DigestWire, Unsatisfied, EntryNotBit, WrongPackedLength, SpareBit, WrongRecordLength, BitAfterRecord, LineNot63, WrongByte, LaneOrAxlesTooLow, BoundsOutOfRange, NotInBand, EntryNotBelowPrime, LimitOutOfRange, BlocksAboveLimit}

-- what can be read back is equal where its numbers are
pub injective : {A : Type 0} (f : A → ℕ) (g : ℕ → A) {a b : A} → g (f a) ≡ a → g (f b) ≡ b → f a ≡ f b → a ≡ b
injective f g p q e = sym p ∙ ap g e ∙ q

-- a byte and what stands above it
pub apart : (x y v : ℕ) → x < 256 → v ≡ x + 256 * y → (v % 256 ≡ x) × (v / 256 ≡ y)
apart x y v small e = (omega arith, omega arith)

-- a refusal by its number and its value
refusal_of_number : ℕ → ℕ → Refusal
refusal_of_number n k =
    cond (eqb n 2) LengthOutOfRange
    (cond (eqb n 3) RowOutOfRange
    (cond (eqb n 4) BufferTooShort
    (cond (eqb n 5) DigestNot32
    (cond (eqb n 6) WrongLength
    (cond (eqb n 7) WireZero
    (cond (eqb n 8) DigestWire
    (cond (eqb n 9) (Unsatisfied (record { 0 = k }))
    (cond (eqb n 10) (EntryNotBit (record { 0 = k }))
    (cond (eqb n 11) WrongPackedLength
    (cond (eqb n 12) SpareBit
    (cond (eqb n 13) WrongRecordLength
    (cond (eqb n 14) BitAfterRecord
    (cond (eqb n 15) LineNot63
    (cond (eqb n 16) (WrongByte (record { 0 = k }))
    (cond (eqb n 17) LaneOrAxlesTooLow
    (cond (eqb n 18) BoundsOutOfRange
    (cond (eqb n 19) NotInBand
    (cond (eqb n 20) (EntryNotBelowPrime (record { 0 = k }))
    (cond (eqb n 21) LimitOutOfRange BlocksAboveLimit)))))))))))))))))))

refusal_back : ℕ → Refusal
refusal_back v = refusal_of_number (v % 256) (v / 256)

-- a number below 256 with a value above it
named_back : (n k v : ℕ) → n < 256 → v ≡ n + 256 * k → refusal_back v ≡ refusal_of_number n k
unfolding refusal_back
named_back n k v small e =
    let number = apart n k v small e in
    rw (number.0, number.1)

refusal_back_lem : (r : Refusal) → refusal_back (packed (refusal_number r) (refusal_values r)) ≡ r
unfolding refusal_back refusal_of_number
refusal_back_lem LengthOutOfRange = refl
refusal_back_lem RowOutOfRange = refl
refusal_back_lem BufferTooShort = refl
refusal_back_lem DigestNot32 = refl
refusal_back_lem WrongLength = refl
refusal_back_lem WireZero = refl
refusal_back_lem DigestWire = refl
refusal_back_lem (Unsatisfied k) =
    named_back 9 k.0 (packed (refusal_number (Unsatisfied k)) (refusal_values (Unsatisfied k))) (omega arith) (omega arith)
refusal_back_lem (EntryNotBit w) =
    named_back 10 w.0 (packed (refusal_number (EntryNotBit w)) (refusal_values (EntryNotBit w))) (omega arith) (omega arith)
refusal_back_lem WrongPackedLength = refl
refusal_back_lem SpareBit = refl
refusal_back_lem WrongRecordLength = refl
refusal_back_lem BitAfterRecord = refl
refusal_back_lem LineNot63 = refl
refusal_back_lem (WrongByte b) =
    named_back 16 b.0 (packed (refusal_number (WrongByte b)) (refusal_values (WrongByte b))) (omega arith) (omega arith)
refusal_back_lem LaneOrAxlesTooLow = refl
refusal_back_lem BoundsOutOfRange = refl
refusal_back_lem NotInBand = refl
refusal_back_lem (EntryNotBelowPrime w) =
    named_back 20 w.0 (packed (refusal_number (EntryNotBelowPrime w)) (refusal_values (EntryNotBelowPrime w))) (omega arith) (omega arith)
refusal_back_lem LimitOutOfRange = refl
refusal_back_lem BlocksAboveLimit = refl

pub refusal_injective : (r s : Refusal)
    → packed (refusal_number r) (refusal_values r) ≡ packed (refusal_number s) (refusal_values s) → r ≡ s
refusal_injective r s =
    injective (λ t. packed (refusal_number t) (refusal_values t)) refusal_back (refusal_back_lem r) (refusal_back_lem s)

-- a refusal's low byte is not 0
pub refused : (r : Refusal) → packed (refusal_number r) (refusal_values r) % 256 ≡ 0 → ⊥
refused LengthOutOfRange e = omega arith
refused RowOutOfRange e = omega arith
refused BufferTooShort e = omega arith
refused DigestNot32 e = omega arith
refused WrongLength e = omega arith
refused WireZero e = omega arith
refused DigestWire e = omega arith
refused (Unsatisfied k) e = omega arith
refused (EntryNotBit w) e = omega arith
refused WrongPackedLength e = omega arith
refused SpareBit e = omega arith
refused WrongRecordLength e = omega arith
refused BitAfterRecord e = omega arith
refused LineNot63 e = omega arith
refused (WrongByte b) e = omega arith
refused LaneOrAxlesTooLow e = omega arith
refused BoundsOutOfRange e = omega arith
refused NotInBand e = omega arith
refused (EntryNotBelowPrime w) e = omega arith
refused LimitOutOfRange e = omega arith
refused BlocksAboveLimit e = omega arith

pub outcome_injective : (a b : Outcome) → packed_outcome a ≡ packed_outcome b → a ≡ b
outcome_injective (Ok _) (Ok _) e = refl
outcome_injective (Ok _) (Err r) e = absurd (refused r (ap (λ v. v % 256) (sym e)))
outcome_injective (Err r) (Ok _) e = absurd (refused r (ap (λ v. v % 256) e))
outcome_injective (Err r) (Err s) e = ap Err (refusal_injective r s e)
