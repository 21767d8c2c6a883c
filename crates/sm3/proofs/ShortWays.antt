-- The short ways in which the code computes P1, the majority and the choice. Two words that agree in every bit are equal, and a bit's
-- few cases are tried.
use Rattle.std.proofs.Common.{◌≡◌, ℕ, zero, suc, ◌+◌, ◌-◌, ◌*◌, ◌/◌, ◌%◌, ◌^◌, ◌<◌, min, max, sym, ap, ◌∙◌, mod-eq_of_lt, arith, lit<, lit≤}
use lib.Bits.{bit_and, and_lt, or_disjoint, or_lt, xor_lt}
use Rattle.sm3.specs.Sm3.{◌⊕◌, choice, majority}
use Rattle.sm3.specs.Words.{bit, rotate_left}
use Rattle.sm3.proofs.Bits.{bit_and_lem, bit-choice, bit_lt, bit-majority, bit_or_lem, bit_xor_lem, bit_xor_3, bit-zero}
use Rattle.sm3.proofs.Bounds.{choice_lt, majority_lt}
use Rattle.sm3.proofs.Rotation.{rotate_lt, rotate_rotate, rotate_xor}
use Rattle.sm3.proofs.WordBits.{word_ext}

-- P1: a word rotated by 8 and then by 15 is rotated by 23, and the second rotation goes into the xor

xor_assoc : (x y z : ℕ) → x < 2 ^ 32 → y < 2 ^ 32 → z < 2 ^ 32 → x ⊕ (y ⊕ z) ≡ x ⊕ y ⊕ z
xor_assoc x y z hx hy hz =
    word_ext _ _ (xor_lt 32 x (y ⊕ z) hx (xor_lt 32 y z hy hz)) (xor_lt 32 (x ⊕ y) z (xor_lt 32 x y hx hy) hz)
    (λ i l. omega (arith, bit_xor_lem i x (y ⊕ z), bit_xor_lem i y z, bit_xor_3 i x y z))

pub shared : (x : ℕ) → x < 2 ^ 32 → x ⊕ rotate_left 15 (x ⊕ rotate_left 8 x) ≡ x ⊕ rotate_left 15 x ⊕ rotate_left 23 x
shared x h =
    ap (λ (y : ℕ). x ⊕ y)
    (rotate_xor 15 x (rotate_left 8 x) (lit≤ tt) h (rotate_lt 8 x (lit≤ tt) h)
    ∙ ap (λ (y : ℕ). rotate_left 15 x ⊕ y) (rotate_rotate 15 8 x (lit≤ tt) h))
    ∙ xor_assoc x (rotate_left 15 x) (rotate_left 23 x) h (rotate_lt 15 x (lit≤ tt) h) (rotate_lt 23 x (lit≤ tt) h)

-- The choice: where x is 1, z xor y xor z is y; where x is 0, z stays.

chosen_bit : (p q r : ℕ) → p < 2 → q < 2 → r < 2 → (r + min p ((q + r) % 2)) % 2 ≡ p * q + (1 - p) * r
chosen_bit zero q r hp hq hr = omega arith
chosen_bit (suc zero) q r hp hq hr = omega arith
chosen_bit (suc (suc p)) q r hp hq hr = absurd (omega arith)

pub picked : (x y z : ℕ) → x < 2 ^ 32 → y < 2 ^ 32 → z < 2 ^ 32 → z ⊕ bit_and x (y ⊕ z) ≡ choice x y z
picked x y z hx hy hz =
    word_ext _ _ (xor_lt 32 z _ hz (and_lt 32 x _ hx (xor_lt 32 y z hy hz))) (choice_lt x y z hx hy hz)
    (λ i l.
    simp (bit_xor_lem, bit_and_lem, bit-choice i x y z hx)
    (chosen_bit (bit i x) (bit i y) (bit i z) (bit_lt i x) (bit_lt i y) (bit_lt i z)))

-- The majority: where x and y are both 1 their xor is 0. So the two words that are added have no bit in common, and the sum is their
-- `|`, in which nothing is dropped. At each place it is 1 where x and y are, or one of them and z.

both_never : (p q r : ℕ) → p < 2 → q < 2 → r < 2 → min (min p q) (min ((p + q) % 2) r) ≡ 0
both_never p q r hp hq hr = omega arith

two-of_three : (p q r : ℕ) → p < 2 → q < 2 → r < 2 → max (min p q) (min ((p + q) % 2) r) ≡ (p + q + r) / 2
two-of_three p q r hp hq hr = omega arith

module _ (x y z : ℕ) (hx : x < 2 ^ 32) (hy : y < 2 ^ 32) (hz : z < 2 ^ 32) where
  both : bit_and x y < 2 ^ 32
  both = and_lt 32 x y hx hy

  one : bit_and (x ⊕ y) z < 2 ^ 32
  one = and_lt 32 (x ⊕ y) z (xor_lt 32 x y hx hy) hz

  apart : bit_and (bit_and x y) (bit_and (x ⊕ y) z) ≡ 0
  apart =
      word_ext _ 0 (and_lt 32 _ _ both one) (lit< tt)
      (λ i l.
      simp (bit_and_lem, bit_xor_lem, bit-zero) (both_never (bit i x) (bit i y) (bit i z) (bit_lt i x) (bit_lt i y) (bit_lt i z)))

  pub joined : (bit_and x y + bit_and (x ⊕ y) z) % 2 ^ 32 ≡ majority x y z
  joined =
      ap (λ (n : ℕ). n % 2 ^ 32) (sym (or_disjoint _ _ apart)) ∙ mod-eq_of_lt (or_lt 32 _ _ both one)
      ∙ word_ext _ _ (or_lt 32 _ _ both one) (majority_lt x y z hx hy hz)
      (λ i l.
      simp (bit_or_lem, bit_and_lem, bit_xor_lem, bit-majority)
      (two-of_three (bit i x) (bit i y) (bit i z) (bit_lt i x) (bit_lt i y) (bit_lt i z)))
