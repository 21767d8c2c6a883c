-- The laws of one digit: a value below 16 has a digit, of which it is the value, and there are no others. A byte past the
-- end reads as 0 and is no digit, so where n digits stand they all lie within.
use mathlib.Core.Bool.{Bool, false, true, ◌&&◌, and-eq-true_iff, or-false}
use mathlib.Core.List.{List, ◌∷◌}
use mathlib.Core.Logic.Iff
use mathlib.Core.Logic.{◌↔◌}
use mathlib.Core.Path.{◌≡◌, refl, subst, sym, ap, ◌∙◌}
use Prim.Native.Nat.{ℕ, zero, suc, ◌+◌, ◌-◌, ◌≤◌, ◌<◌}
use native.Mathlib.Decide.{dec_lt}
use native.Mathlib.Nat.{add-zero}
use native.Mathlib.Numerals.{add-one}
use native.Mathlib.Omega.{arith}
use borrow.Author.Count.{below_none}
use borrow.Author.Tests.{le-leb, lt-leb, leb-true, le-ltb, lt-ltb}
use lib.Dec.{leb}
use lib.ListN.{drop, get_or, length, take, get_or-eq_default}
use lib.Seq.{drop-cons}
use Rattle.std.specs.List.{list_all}
use Rattle.encoding.proofs.Sequence.{Each}
use Rattle.text.specs.Decimal.{is_digit, is_digit_or}
use Rattle.text.specs.Hex.{all_hex, hex_digit, hex_value, is_hex}

-- what is known of a digit
pub record HexDigit (c : ℕ) : Type 0 where
  pub low : 48 ≤ c
  pub value : hex_value c < 16
  pub is : hex_digit (hex_value c) ≡ c

pub hex-digit : (c : ℕ) → is_hex c ≡ true → HexDigit c
unfolding is_hex is_digit_or is_digit hex_value hex_digit
hex-digit c e = by (dec_lt c 97)
  where
    by : Dec (c < 97) → HexDigit c
    by (yes below) =
        let bounds = (and-eq-true_iff (leb 48 c) (leb c 57)).0 (simp (lt-leb 97 c below, or-false) at e) in
        let from : 48 ≤ c = leb-true 48 c bounds.0 in
        let to : c ≤ 57 = leb-true c 57 bounds.1 in
        record {
          low = from;
          value = simp (lt-ltb c 97 below) (omega arith);
          is = simp (lt-ltb c 97 below, lt-ltb (c - 48) 10 (omega arith)) (omega arith);
        }
    by (no above) =
        let from : 97 ≤ c = omega arith in
        let to : c ≤ 102 = leb-true c 102 (simp (lt-leb c 57 (omega arith), le-leb 48 c (omega arith), le-leb 97 c from) at e) in
        record {
          low = omega arith;
          value = simp (le-ltb c 97 from) (omega arith);
          is = simp (le-ltb c 97 from, le-ltb (c - 87) 10 (omega arith)) (omega arith);
        }

module _ (v : ℕ) (below : v < 16) where
  pub digit-is_hex : is_hex (hex_digit v) ≡ true
  unfolding is_hex is_digit_or is_digit hex_digit
  digit-is_hex = by (dec_lt v 10)
    where
      by : Dec (v < 10) → is_hex (hex_digit v) ≡ true
      by (yes low) = simp (lt-ltb v 10 low, le-leb 48 (48 + v) (omega arith), le-leb (48 + v) 57 (omega arith))
      by (no high) =
          simp (
            le-ltb v 10 (omega arith),
            lt-leb (87 + v) 57 (omega arith),
            le-leb 48 (87 + v) (omega arith),
            le-leb 97 (87 + v) (omega arith),
            le-leb (87 + v) 102 (omega arith),
          )

  value_of-digit : hex_value (hex_digit v) ≡ v
  unfolding hex_value hex_digit
  value_of-digit = by (dec_lt v 10)
    where
      by : Dec (v < 10) → hex_value (hex_digit v) ≡ v
      by (yes low) = simp (lt-ltb v 10 low, lt-ltb (48 + v) 97 (omega arith)) (omega arith)
      by (no high) = simp (le-ltb v 10 (omega arith), le-ltb (87 + v) 97 (omega arith)) (omega arith)

pub digit-same : (v w : ℕ) → v < 16 → w < 16 → hex_digit v ≡ hex_digit w → v ≡ w
digit-same v w v_below w-below same = sym (value_of-digit v v_below) ∙ ap hex_value same ∙ value_of-digit w w-below

-- a byte that is not 0 lies within, and so does a digit
pub byte-within : (s : List ℕ) (k : ℕ) → 0 < get_or s k 0 → k < length s
byte-within s k some = by (dec_lt k (length s))
  where
    by : Dec (k < length s) → k < length s
    by (yes within) = within
    by (no past) = absurd (omega (arith, get_or-eq_default s 0 {n = k} (omega arith)))

pub hex-within : (s : List ℕ) (k : ℕ) → is_hex (get_or s k 0) ≡ true → k < length s
hex-within s k e = byte-within s k (omega (arith, (hex-digit (get_or s k 0) e).low))

-- n digits stand there exactly if each of n bytes is a digit
each_more :
    (P : ℕ → Type 0) (n at : ℕ)
    → (P at × Each n (λ k. P (at + 1 + k))) ↔ Each (suc n) (λ k. P (at + k))
each_more P n at = (grown, λ each. (subst P (add-zero at) (each 0 (omega arith)), λ k l. subst P (place k) (each (suc k) (omega arith))))
  where
    place : (k : ℕ) → at + suc k ≡ at + 1 + k
    place k = omega arith

    grown : P at × Each n (λ k. P (at + 1 + k)) → Each (suc n) (λ k. P (at + k))
    grown h zero l = subst P (sym (add-zero at)) h.0
    grown h (suc k) l = subst P (sym (place k)) (h.1 k (omega arith))

pub all_hex_each : (n : ℕ) (s : List ℕ) (at : ℕ) → (all_hex n s at ≡ true) ↔ Each n (λ k. is_hex (get_or s (at + k) 0) ≡ true)
unfolding all_hex
all_hex_each zero s at = (λ _. below_none _, λ _. refl)
all_hex_each (suc n) s at =
    Iff.trans (and-eq-true_iff (is_hex (get_or s at 0)) (all_hex n s (at + 1)))
    (Iff.trans (Iff.and (λ h. h, λ h. h) (all_hex_each n s (at + 1)))
    (each_more (λ k. is_hex (get_or s k 0) ≡ true) n at))

-- .. so none of them stands past the end, and those that stand within are tested one after the other
pub all_hex_past : (n : ℕ) (s : List ℕ) (at : ℕ) → length s - at < n → all_hex n s at ≡ false
all_hex_past n s at past = by (all_hex n s at) refl
  where
    by : (b : Bool) → all_hex n s at ≡ b → all_hex n s at ≡ false
    by false e = e
    by true e = absurd (omega (arith, hex-within s (at + (n - 1)) ((all_hex_each n s at).0 e (n - 1) (omega arith))))

pub all_hex_list : (n : ℕ) (s : List ℕ) (at : ℕ) → n ≤ length s - at → all_hex n s at ≡ list_all is_hex (take n (drop at s))
unfolding all_hex
all_hex_list zero s at within = refl
all_hex_list (suc n) s at within =
    let first : drop at s ≡ get_or s at 0 ∷ drop (at + 1) s =
    drop-cons s at 0 (omega arith) ∙ ap (λ (k : ℕ). get_or s at 0 ∷ drop k s) (sym (add-one at)) in
    ap (λ (b : Bool). is_hex (get_or s at 0) && b) (all_hex_list n s (at + 1) (omega arith))
    ∙ sym (ap (λ (t : List ℕ). list_all is_hex (take (suc n) t)) first)
