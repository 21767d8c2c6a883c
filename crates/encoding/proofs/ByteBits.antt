-- Bytes and their bits. Eight bits write a byte and are read off it again, so the bytes of some bits have those bits, and
-- bytes that have the same bits are the same.
use mathlib.Core.List.{List, ◌++◌}
use mathlib.Core.Logic.{by_cases}
use mathlib.Core.Path.{◌≡◌, ◌∙◌, ap, subst, sym}
use Prim.Native.Nat.{ℕ, ◌+◌, ◌-◌, ◌*◌, ◌/◌, ◌%◌, ◌^◌, ◌<◌}
use native.Mathlib.Decide.{dec_lt}
use native.Mathlib.Nat.{div-add-mod}
use native.Mathlib.Omega.{arith}
use lib.Dec.{lit<}
use lib.ListN.{get_or-eq_default, length}
use lib.Seq.{ext_get_or}
use Rattle.encoding.proofs.Bits.{bit_of-byte, bit_of-number, number_cong, number_lt, number_of-byte}
use Rattle.encoding.proofs.Tab.{get_or-tab, length-tab, tab-add, tab_congruent}
use Rattle.encoding.specs.Bits.{bit_of_bytes, bytes_of_bits}
use Rattle.encoding.specs.Bytes.{Bytes}
use Rattle.encoding.specs.Sequence.{tab}

-- a table of bytes
pub tab_bytes : (n : ℕ) (f : ℕ → ℕ) → ((k : ℕ) → k < n → f k < 256) → Bytes (tab n f)
tab_bytes n f h k =
    by_cases (dec_lt k n) (λ l. subst (λ x. x < 256) (sym (get_or-tab n f k 0 l)) (h k l))
    (λ past. subst (λ x. x < 256) (sym (get_or-eq_default (tab n f) 0 (omega (arith, length-tab n f)))) (lit< tt))

-- bytes are determined by their bits
pub bytes_ext : (xs ys : List ℕ) → length xs ≡ length ys → Bytes xs → Bytes ys
    → ((k : ℕ) → k < 8 * length xs → bit_of_bytes xs k ≡ bit_of_bytes ys k) → xs ≡ ys
bytes_ext xs ys e hx hy same =
    ext_get_or 0 xs ys e
    (λ k l.
    sym (number_of-byte xs k (hx k)) ∙ number_cong 8 _ _ (λ i h. same (8 * k + i) (omega arith)) ∙ number_of-byte ys k (hy k))

-- the bytes that bits write
pub length-bytes_of-bits : (n : ℕ) (b : ℕ → ℕ) → length (bytes_of_bits n b) ≡ n
unfolding bytes_of_bits
length-bytes_of-bits n b = length-tab n _

module _ (n : ℕ) (b : ℕ → ℕ) (bits : (k : ℕ) → k < 8 * n → b k < 2) where
  pub bytes_of-bits : Bytes (bytes_of_bits n b)
  unfolding bytes_of_bits
  bytes_of-bits = tab_bytes n _ (λ k l. number_lt 8 (λ i. b (8 * k + i)) (λ i h. bits (8 * k + i) (omega arith)))

  pub bit_of-bits : (k : ℕ) → k < 8 * n → bit_of_bytes (bytes_of_bits n b) k ≡ b k
  unfolding bytes_of_bits
  bit_of-bits k l =
      ap (bit_of_bytes (bytes_of_bits n b)) (sym (div-add-mod k 8))
      ∙ bit_of-byte (bytes_of_bits n b) (k / 8) (k % 8) (omega arith)
      ∙ ap (λ x. x / 2 ^ (7 - k % 8) % 2) (get_or-tab n _ (k / 8) 0 (omega arith))
      ∙ bit_of-number 8 (λ i. b (8 * (k / 8) + i)) (k % 8) (λ i h. bits (8 * (k / 8) + i) (omega arith)) (omega arith)
      ∙ ap b (div-add-mod k 8)

-- only the first 8 n bits count
pub bytes_of-bits_congruent : (n : ℕ) (b c : ℕ → ℕ) → ((k : ℕ) → k < 8 * n → b k ≡ c k) → bytes_of_bits n b ≡ bytes_of_bits n c
unfolding bytes_of_bits
bytes_of-bits_congruent n b c same =
    tab_congruent n _ _ (λ k l. number_cong 8 _ _ (λ i h. same (8 * k + i) (omega arith)))

-- n bytes, then m more
pub bytes_of-bits-add : (n m : ℕ) (b : ℕ → ℕ) → bytes_of_bits (n + m) b ≡ bytes_of_bits n b ++ bytes_of_bits m (λ k. b (8 * n + k))
unfolding bytes_of_bits
bytes_of-bits-add n m b =
    tab-add n m _
    ∙ ap (λ l. bytes_of_bits n b ++ l)
    (tab_congruent m _ _
    (λ k l.
    number_cong 8 _ _
    (λ i h.
    let place : 8 * (n + k) + i ≡ 8 * n + (8 * k + i) = omega arith in
    ap b place)))
