-- A word read bit by bit: each bit moves what is read up by one place, and below 32 bits there is room for that.
use Rattle.std.proofs.Common.{◌≡◌, ℕ, ◌+◌, ◌*◌, ◌%◌, ◌^◌, ◌<◌, ◌≤◌, List, sym, refl, ap, ◌∙◌, subst, ap₂, add-one, arith, pow_mono, below_none, below_more}
use Rattle.assignment.specs.Assignment.{entry}
use Rattle.assignment.specs.Bounded.{AtMost}
use Rattle.encoding.specs.Bits.{number}
use Rattle.agreement.proofs.Agreeing.{bits_lt}
use Rattle.agreement.specs.Agrees.{Bits, BitsOf}

pub no_bit : (w : ℕ) (bytes : List ℕ) → BitsOf w 0 0 bytes
unfolding number
no_bit w bytes = record { bits = below_none (λ i. entry bytes (w + i) < 2); value = refl }

one_bit : {w i x b : ℕ} {bytes : List ℕ} → BitsOf w i x bytes → b ≡ entry bytes (w + i) → b < 2
    → BitsOf w (i + 1) (x * 2 + b) bytes
unfolding number
one_bit {w} {i} {x} {b} {bytes} h e l =
    record {
      bits = below_more (λ i. entry bytes (w + i) < 2) i h.bits (subst (λ y. y < 2) e l);
      value =
          ap₂ (λ x y. x * 2 + y) h.value e ∙ ap (λ n. number n (λ i. entry bytes (w + i))) (sym (add-one i));
    }

room : {w i x : ℕ} {bytes : List ℕ} → i < 32 → BitsOf w i x bytes → x < 2 ^ 31
room {i = i} l h =
    let most : 2 ^ i ≤ 2 ^ 31 = pow_mono {i = i} {j = 31} (omega arith) in
    omega (arith, bits_lt h)

-- the next of entries that are bits
pub next_bit : {w i x y z n : ℕ} {bytes : List ℕ} → i < 32 → n ≡ entry bytes (w + i) → y ≡ (x + x) % 2 ^ 64 → z ≡ (y + n) % 2 ^ 64
    → (Bits w 32 bytes → BitsOf w i x bytes) → Bits w 32 bytes → BitsOf w (i + 1) z bytes
next_bit {w} {i} {x} {y} {z} {n} {bytes} l e double sum h all =
    let before = h all in
    let bit : n < 2 = omega (arith, all.each i l) in
    let moved : x * 2 + n ≡ z = omega (arith, room l before) in
    subst (λ v. BitsOf w (i + 1) v bytes) moved (one_bit before e bit)

-- where nothing above 1 was seen
pub seen_bits : {w n seen : ℕ} {bytes : List ℕ} → seen < 2 → AtMost w n seen bytes → Bits w n bytes
seen_bits few h = record { each = λ i l. omega (arith, h.each i l) }
