-- The message's bits, eight to a byte. A byte inside the record is the record's. The byte in which the record ends has the record's
-- bits, then the bit 1, then zeros; this may be a byte of which the record has no bit. Zeros follow, and the last eight bytes are the
-- bit length. So 64 such bytes, or 64 bytes of the record, have the bits of a block.
use Rattle.std.proofs.Common.{◌≡◌, ℕ, suc, ◌+◌, ◌-◌, ◌*◌, ◌/◌, ◌%◌, ◌^◌, ◌<◌, ◌≤◌, List, get_or, take, drop, sym, ap, ◌∙◌, subst, mul_assoc, pow-suc, arith, get_or-drop, get_or-take, pow-add, shr-shr, shr_lt}
use mathlib.Core.Logic.{by_cases}
use native.Mathlib.Decide.{dec_lt}
use native.Mathlib.Nat.{zero-div}
use lib.Arith.{digits_lt}
use lib.Pow.{field, high, mod-mod-pow, pow-lt, shl-shr}
use Rattle.encoding.proofs.Bits.{bit_of-byte}
use Rattle.encoding.proofs.Tab.{get_or-tab}
use Rattle.encoding.specs.Bits.{bit_of_bytes}
use Rattle.encoding.specs.Sequence.{tab}
use Rattle.limits.specs.Blocks.{blocks}
use Rattle.sm3.proofs.message.MessageBits.{message_content, message-length, message-one, message-zero}
use Rattle.sm3.specs.Ended.{cut_byte}
use Rattle.sm3.specs.Message.{block_bits, message}

-- a bit of a number's byte is a bit of the number
byte_of_number : (n m s : ℕ) → s < 8 → n / 2 ^ m % 256 / 2 ^ s % 2 ≡ n / 2 ^ (m + s) % 2
byte_of_number n m s h =
    let all : (8 - s) + s ≡ 8 = omega arith in
    let high : 8 - s ≡ (7 - s) + 1 = omega arith in
    ap (λ (t : ℕ). n / 2 ^ m % 2 ^ t / 2 ^ s % 2) (sym all)
    ∙ ap (λ (t : ℕ). t % 2) (field (n / 2 ^ m) (8 - s) s)
    ∙ ap (λ (t : ℕ). n / 2 ^ m / 2 ^ s % 2 ^ t % 2) high
    ∙ mod-mod-pow (n / 2 ^ m / 2 ^ s) (7 - s) 1
    ∙ ap (λ (t : ℕ). t % 2) (shr-shr n m s)

-- the byte y with its first bits, then the bit 1 and m zeros
abbrev pub cut_after : ℕ → ℕ → ℕ
cut_after m y = (y / 2 ^ suc m * 2 + 1) * 2 ^ m

-- .. where m zeros, the bit 1 and u bits before it are eight
pub cut_byte_lem : (u y : ℕ) → u < 8 → cut_byte u y ≡ cut_after (7 - u) y
cut_byte_lem u y l =
    let places : 8 - u ≡ suc (7 - u) = omega arith in
    ap (λ k. (y / 2 ^ k * 2 + 1) * 2 ^ (7 - u)) places

-- .. is the first bits in their place, and the bit 1 below them
as_sum : (m y : ℕ) → cut_after m y ≡ y / 2 ^ suc m * 2 ^ suc m + 2 ^ m
as_sum m y =
    let a : ℕ = y / 2 ^ suc m in
    let power : a * 2 ^ suc m ≡ a * 2 ^ m * 2 = ap (λ t. a * t) (pow-suc 2 m) ∙ sym (mul_assoc a (2 ^ m) 2) in
    omega arith

pub cut_lt : (u m y : ℕ) → u + suc m ≡ 8 → y < 256 → cut_after m y < 256
cut_lt u m y e l =
    let whole : 2 ^ u * 2 ^ suc m ≡ 256 = sym (pow-add 2 u (suc m)) ∙ ap (λ t. 2 ^ t) e in
    let first : y / 2 ^ suc m < 2 ^ u = shr_lt u (suc m) (subst (λ t. y < 2 ^ t) (sym e) l) in
    subst (λ t. t < 256) (sym (as_sum m y))
    (subst (λ t. y / 2 ^ suc m * 2 ^ suc m + 2 ^ m < t) whole (digits_lt first (pow-lt (omega arith))))

-- the bits before the bit 1, that bit, and the zeros
cut_kept : (m y d : ℕ) → cut_after m y / 2 ^ (suc m + d) % 2 ≡ y / 2 ^ (suc m + d) % 2
cut_kept m y d =
    ap (λ t. t % 2)
    (sym (shr-shr (cut_after m y) (suc m) d)
    ∙ ap (λ t. t / 2 ^ d) (ap (λ t. t / 2 ^ suc m) (as_sum m y) ∙ high (y / 2 ^ suc m) (suc m) (pow-lt (omega arith)))
    ∙ shr-shr y (suc m) d)

cut_one : (m y : ℕ) → cut_after m y / 2 ^ m % 2 ≡ 1
cut_one m y = ap (λ t. t % 2) (shl-shr (y / 2 ^ suc m * 2 + 1) m) ∙ omega arith

cut_zero : (s d y : ℕ) → cut_after (suc d + s) y / 2 ^ s % 2 ≡ 0
cut_zero s d y =
    let a : ℕ = y / 2 ^ suc (suc d + s) * 2 + 1 in
    let product : a * 2 ^ (suc d + s) ≡ a * 2 ^ suc d * 2 ^ s =
    ap (λ t. a * t) (pow-add 2 (suc d) s) ∙ sym (mul_assoc a (2 ^ suc d) (2 ^ s)) in
    let even : a * 2 ^ suc d ≡ a * 2 ^ d * 2 = ap (λ t. a * t) (pow-suc 2 d) ∙ sym (mul_assoc a (2 ^ d) 2) in
    ap (λ t. t / 2 ^ s % 2) product ∙ ap (λ t. t % 2) (shl-shr (a * 2 ^ suc d) s) ∙ omega (arith, even)

module _ (n : ℕ) (bytes : List ℕ) where
  -- y is byte x of the message
  abbrev pub IsByte : ℕ → ℕ → Type 0
  IsByte x y = (j : ℕ) → j < 8 → y / 2 ^ (7 - j) % 2 ≡ message n (bit_of_bytes bytes) (8 * x + j)

  pub in_record : (x : ℕ) → 8 * x + 8 ≤ n → IsByte x (get_or bytes x 0)
  in_record x h j l = sym (message_content n (bit_of_bytes bytes) (8 * x + j) (omega arith) ∙ bit_of-byte bytes x j l)

  pub past_record : (x : ℕ) → n < 8 * x → 8 * x + 8 ≤ 512 * blocks n - 64 → IsByte x 0
  past_record x h e j l =
      ap (λ t. t % 2) (zero-div (2 ^ (7 - j))) ∙ sym (message-zero n (bit_of_bytes bytes) (8 * x + j) (omega arith) (omega arith))

  -- the byte in which the record ends
  pub record_end : (x m : ℕ) → x ≡ n / 8 → m ≡ 7 - n % 8 → IsByte x (cut_after m (get_or bytes x 0))
  unfolding blocks
  record_end x m at zeros j l =
      by_cases (dec_lt j (n % 8))
      (λ before.
      let place : 7 - j ≡ suc m + (n % 8 - 1 - j) = omega arith in
      ap (λ s. cut_after m y / 2 ^ s % 2) place
      ∙ cut_kept m y (n % 8 - 1 - j)
      ∙ ap (λ s. y / 2 ^ s % 2) (sym place)
      ∙ sym (message_content n (bit_of_bytes bytes) (8 * x + j) (omega arith) ∙ bit_of-byte bytes x j l))
      (λ from.
      by_cases (dec_lt (n % 8) j)
      (λ after.
      let place : m ≡ suc (j - n % 8 - 1) + (7 - j) = omega arith in
      ap (λ s. cut_after s y / 2 ^ (7 - j) % 2) place
      ∙ cut_zero (7 - j) (j - n % 8 - 1) y
      ∙ sym (message-zero n (bit_of_bytes bytes) (8 * x + j) (omega arith) (omega arith)))
      (λ here.
      let place : 7 - j ≡ m = omega arith in
      ap (λ s. cut_after m y / 2 ^ s % 2) place ∙ cut_one m y ∙ sym (message-one n (bit_of_bytes bytes) (8 * x + j) (omega arith))))
    where
      y : ℕ
      y = get_or bytes x 0

  -- byte m of the bit length, counted from the last
  pub length-byte : (x m : ℕ) → x + m + 1 ≡ 64 * blocks n → m < 8 → IsByte x (n / 2 ^ (8 * m) % 256)
  unfolding blocks
  length-byte x m e few j l =
      let place : 8 * m + (7 - j) ≡ 512 * blocks n - 1 - (8 * x + j) = omega arith in
      byte_of_number n (8 * m) (7 - j) (omega arith)
      ∙ ap (λ t. n / 2 ^ t % 2) place
      ∙ sym (message-length n (bit_of_bytes bytes) (8 * x + j) (omega arith))

  -- a list of 64 bytes of the message has the bits of a block
  pub block-bits : (i : ℕ) (f : ℕ → ℕ) → ((x : ℕ) → x < 64 → IsByte (64 * i + x) (f x)) → (r : List ℕ) → r ≡ tab 64 f
      → (k : ℕ) → k < 512 → bit_of_bytes r k ≡ block_bits (message n (bit_of_bytes bytes)) i k
  unfolding bit_of_bytes block_bits
  block-bits i f are r e k h =
      let place : 8 * (64 * i + k / 8) + k % 8 ≡ 512 * i + k = omega arith in
      ap (λ (t : List ℕ). get_or t (k / 8) 0 / 2 ^ (7 - k % 8) % 2) e
      ∙ ap (λ (t : ℕ). t / 2 ^ (7 - k % 8) % 2) (get_or-tab 64 f (k / 8) 0 (omega arith))
      ∙ are (k / 8) (omega arith) (k % 8) (omega arith)
      ∙ ap (message n (bit_of_bytes bytes)) place

  -- the first 64 of the m bytes from a block on that lies within the record
  pub record_bits : (i m : ℕ) → 64 ≤ m → 512 * i + 512 ≤ n → (k : ℕ) → k < 512
      → bit_of_bytes (take 64 (take m (drop (64 * i) bytes))) k ≡ block_bits (message n (bit_of_bytes bytes)) i k
  unfolding bit_of_bytes block_bits
  record_bits i m e l k h =
      let place : 8 * (64 * i + k / 8) + k % 8 ≡ 512 * i + k = omega arith in
      ap (λ (t : ℕ). t / 2 ^ (7 - k % 8) % 2)
      (get_or-take 64 (take m (drop (64 * i) bytes)) (k / 8) 0 (omega arith)
      ∙ get_or-take m (drop (64 * i) bytes) (k / 8) 0 (omega arith)
      ∙ get_or-drop (64 * i) bytes (k / 8) 0)
      ∙ in_record (64 * i + k / 8) (omega arith) (k % 8) (omega arith)
      ∙ ap (message n (bit_of_bytes bytes)) place
