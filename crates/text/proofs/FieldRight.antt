-- A field is read exactly if it is the writing of a number below 1,000,000,000 and its stop. The bytes that have been
-- read are the writing of the value so far, which each digit keeps; the other way round, a writing is read digit by
-- digit.
use mathlib.Core.Bool.{Bool, false, true}
use mathlib.Core.List.{List, [], ◌∷◌, ◌++◌, append_assoc}
use mathlib.Core.Path.{◌≡◌, refl, sym, ap, ap₂, ◌∙◌}
use Prim.Native.Nat.{ℕ, ◌+◌, ◌-◌, ◌*◌, ◌/◌, ◌%◌, ◌<◌}
use native.Mathlib.Decide.{ℕ_discrete}
use native.Mathlib.Omega.{arith}
use lib.ListN.{length, drop, length-append}
use lib.Seq.{drop_at}
use Rattle.std.proofs.lemmas.Option.{same_Some}
use Rattle.std.specs.Prelude.{None, Option}
use Rattle.text.specs.Decimal.{decimal, digit, field}
use Rattle.text.specs.Field.{continues, field_from, field_of, found}
use Rattle.text.specs.declared.field.Field.{Field}
use Rattle.text.proofs.Digits.{by_tenths, decimal_high, decimal_low, decimal-more, decimal_some}
use Rattle.text.proofs.Fields.{NextDigit, digit-more, digit_wrong, is_next, next-digit, no_stop, stop_after, stop_first}

-- n digits of the value v have been read: `digits`
record Read (v n : ℕ) (digits : List ℕ) : Type 0 where
  counted : n ≡ length digits
  below : v < 1000000000
  none : n ≡ 0 → v ≡ 0
  some : (n ≡ 0 → ⊥) → digits ≡ decimal v

empty : (s : List ℕ) → length s ≡ 0 → s ≡ []
empty [] e = refl
empty (x ∷ s) e = absurd (omega (arith, e))

-- one digit more
read_more : {v n c : ℕ} {digits : List ℕ} → Read v n digits → NextDigit v n c → Read (10 * v + (c - 48)) (n + 1) (digits ++ (c ∷ []))
read_more {v} {n} {c} {digits} read next =
    record {
      counted = omega (arith, read.counted, length-append digits (c ∷ []));
      below = omega (arith, next.below, next.low, next.high);
      none = λ e. absurd (omega (arith, e));
      some = λ _. by (ℕ_discrete n 0);
    }
  where
    is : digit (c - 48) ≡ c
    is = omega (arith, next.low)

    by : Dec (n ≡ 0) → digits ++ (c ∷ []) ≡ decimal (10 * v + (c - 48))
    by (yes first) =
        let value : 10 * v + (c - 48) ≡ c - 48 = omega (arith, read.none first) in
        ap (λ (t : List ℕ). t ++ (c ∷ [])) (empty digits (omega (arith, read.counted)))
        ∙ sym (ap decimal value ∙ decimal_low (c - 48) (omega (arith, next.low, next.high)) ∙ ap (λ (d : ℕ). d ∷ []) is)
    by (no later) =
        ap (λ (t : List ℕ). t ++ (c ∷ [])) (read.some later)
        ∙ ap (λ (d : ℕ). decimal v ++ (d ∷ [])) (sym is)
        ∙ sym (decimal-more v (c - 48) (next.lead later) (omega (arith, next.low, next.high)))

-- s begins with the field of v
pub record Begins (stop : ℕ) (s : List ℕ) (v m : ℕ) : Type 0 where
  pub below : v < 1000000000
  pub bytes : m ≡ length (field v stop)
  pub rest : List ℕ
  pub is : s ≡ field v stop ++ rest

never : {f : Option Field} {v m : ℕ} → f ≡ None → f ≡ found v m → ⊥
never {f} {v} {m} wrong right = let z : ◌≡◌ {A = ℕ} 0 1 = cc in omega arith

module _ (stop w m : ℕ) where
  sound :
      (s : List ℕ) (v n : ℕ) (digits : List ℕ)
      → Read v n digits
      → field_from stop v n s ≡ found w m
      → Begins stop (digits ++ s) w m
  unfolding field
  sound [] v n digits read e = absurd (never (no_stop stop v n) e)
  sound (c ∷ s) v n digits read e =
      by (ℕ_discrete c stop) (continues v n c) refl (sound s (10 * v + (c - 48)) (n + 1) (digits ++ (c ∷ [])))
    where
      stopped : c ≡ stop → (n ≡ 0 → ⊥) → Begins stop (digits ++ (c ∷ s)) w m
      stopped is later =
          let same : found v (n + 1) ≡ found w m = sym (stop_after stop v n c s is later) ∙ e in
          let fields = same_Some _ _ same in
          let value : v ≡ w = ap (λ (f : Field). f.value) fields in
          let bytes : n + 1 ≡ m = ap (λ (f : Field). f.bytes) fields in
          let whole : digits ≡ decimal w = read.some later ∙ ap decimal value in
          record {
            below = rw value at read.below;
            bytes = omega (arith, bytes, read.counted, ap length whole, length-append (decimal w) (stop ∷ []));
            rest = s;
            is =
                ap (λ (t : List ℕ). t ++ (c ∷ s)) whole
                ∙ ap (λ (b : ℕ). decimal w ++ (b ∷ s)) is
                ∙ sym (append_assoc (decimal w) (stop ∷ []) s);
          }

      by :
          Dec (c ≡ stop)
          → (more : Bool)
          → continues v n c ≡ more
          → (Read (10 * v + (c - 48)) (n + 1) (digits ++ (c ∷ []))
          → field_from stop (10 * v + (c - 48)) (n + 1) s ≡ found w m
          → Begins stop (digits ++ (c ∷ []) ++ s) w m)
          → Begins stop (digits ++ (c ∷ s)) w m
      by (yes is) more told further = stopped is (λ first. never (stop_first stop v n c s is first) e)
      by (no isnt) true told further =
          rw append_assoc at
          (further (read_more read (next-digit v n c told)) (sym (digit-more stop v n c s isnt told) ∙ e))
      by (no isnt) false told further = absurd (never (digit_wrong stop v n c s isnt told) e)

pub field-begins : (stop : ℕ) (s : List ℕ) (v m : ℕ) → field_of stop s ≡ found v m → Begins stop s v m
unfolding field_of
field-begins stop s v m e =
    sound stop v m s 0 0 [] (record { counted = refl; below = omega arith; none = λ _. refl; some = λ no_digit. absurd (no_digit refl) }) e

-- what stands after the field
pub field-rest : {stop : ℕ} {s : List ℕ} {v m : ℕ} → (b : Begins stop s v m) → drop m s ≡ b.rest
field-rest {stop} {s} {v} {m} b =
    ap (drop m) b.is ∙ drop_at (field v stop) b.rest m (sym b.bytes)

-- the digits of a number are read
read-decimal :
    (stop : ℕ)
    → stop < 48
    → (v : ℕ)
    → v < 1000000000
    → (t : List ℕ)
    → field_from stop 0 0 (decimal v ++ t) ≡ field_from stop v (length (decimal v)) t
read-decimal stop apart =
    by_tenths (λ v. v < 1000000000 → (t : List ℕ) → field_from stop 0 0 (decimal v ++ t) ≡ field_from stop v (length (decimal v)) t)
    (λ v low below t.
    let value : 10 * 0 + (digit v - 48) ≡ v = omega arith in
    rw (decimal_low v low)
    (digit-more stop 0 0 (digit v) t (λ e. omega (arith, e))
    (is_next 0 0 (digit v) (record { low = omega arith; high = omega arith; below = omega arith; lead = λ some. absurd (some refl) }))
    ∙ ap (λ (x : ℕ). field_from stop x 1 t) value))
    (λ v high tenth below t.
    let front = decimal (v / 10) in
    let last = digit (v % 10) in
    let value : 10 * (v / 10) + (last - 48) ≡ v = omega arith in
    let counted : length front + 1 ≡ length (decimal v) =
    omega (arith, ap length (decimal_high v high), length-append front (last ∷ [])) in
    ap (λ (s : List ℕ). field_from stop 0 0 (s ++ t)) (decimal_high v high)
    ∙ ap (field_from stop 0 0) (append_assoc front (last ∷ []) t)
    ∙ tenth (omega arith) (last ∷ t)
    ∙ digit-more stop (v / 10) (length front) last t (λ e. omega (arith, e))
    (is_next (v / 10) (length front) last
    (record { low = omega arith; high = omega arith; below = omega arith; lead = λ some. omega arith }))
    ∙ ap₂ (λ (x k : ℕ). field_from stop x k t) value counted)

pub field-read :
    (stop : ℕ)
    → stop < 48
    → (v : ℕ)
    → v < 1000000000
    → (t : List ℕ)
    → field_of stop (field v stop ++ t) ≡ found v (length (field v stop))
unfolding field field_of
field-read stop apart v below t =
    ap (field_from stop 0 0) (append_assoc (decimal v) (stop ∷ []) t)
    ∙ read-decimal stop apart v below (stop ∷ t)
    ∙ stop_after stop v (length (decimal v)) stop t refl (λ e. omega (arith, e, decimal_some v))
    ∙ ap (found v) (sym (length-append (decimal v) (stop ∷ [])))
