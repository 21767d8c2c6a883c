-- The bits of the bytes of eight words are the words' bits. Byte m of a word is the word divided by 2^(24 - 8 m), modulo 256, so bit i
-- of that byte is bit 8 m + i of the word.
use mathlib.Core.Path.{◌≡◌, ◌∙◌, ap, ap₂, refl, subst, sym}
use Prim.Native.Nat.{ℕ, zero, suc, ◌+◌, ◌-◌, ◌*◌, ◌/◌, ◌%◌, ◌^◌, ◌<◌}
use native.Mathlib.Omega.{arith}
use lib.ListN.{get_or, length}
use lib.Pow.{shr-shr}
use Rattle.block.specs.BlockWires.{state_wires}
use Rattle.encoding.proofs.Bits.{bit_of-number, number_of-bits}
use Rattle.encoding.proofs.ByteBits.{tab_bytes}
use Rattle.encoding.proofs.Tab.{get_or-tab}
use Rattle.encoding.specs.Bits.{bit_of_bytes}
use Rattle.encoding.specs.Bytes.{highest_first, Bytes}
use Rattle.encoding.specs.Sequence.{grid, tab}
use Rattle.forms.specs.WordWires.{word_wires}
use Rattle.sm3.specs.Message.{bytes_of}
use Rattle.sm3.specs.Sm3.{word_of}
use Rattle.sm3.specs.Words.{bit}
use Rattle.sm3.specs.declared.state.State.{State}

-- The bytes of a word.

byte_of_word : (x m : ℕ) → m < 4 → get_or (highest_first 4 x) m 0 ≡ x / 2 ^ (24 - 8 * m) % 256
unfolding highest_first tab
byte_of_word x zero l = refl
byte_of_word x (suc zero) l = refl
byte_of_word x (suc (suc zero)) l = refl
byte_of_word x (suc (suc (suc zero))) l = refl
byte_of_word x (suc (suc (suc (suc m)))) l = absurd (omega arith)

-- the bits of a number's lowest byte are its own
low_byte : (y i : ℕ) → i < 8 → y % 256 / 2 ^ (7 - i) % 2 ≡ y / 2 ^ (7 - i) % 2
low_byte y i l =
    ap (λ z. z / 2 ^ (7 - i) % 2) (sym (number_of-bits 8 y)) ∙ bit_of-number 8 (λ j. y / 2 ^ (7 - j) % 2) i (λ j h. omega arith) l

bit_of-word : (x m i : ℕ) → m < 4 → i < 8 → get_or (highest_first 4 x) m 0 / 2 ^ (7 - i) % 2 ≡ bit (8 * m + i) x
unfolding bit
bit_of-word x m i lm li =
    let place : 24 - 8 * m + (7 - i) ≡ 31 - (8 * m + i) = omega arith in
    ap (λ y. y / 2 ^ (7 - i) % 2) (byte_of_word x m lm)
    ∙ low_byte (x / 2 ^ (24 - 8 * m)) i li
    ∙ ap (λ y. y % 2) (shr-shr x (24 - 8 * m) (7 - i) ∙ ap (λ k. x / 2 ^ k) place)

-- The bytes of eight words.

bytes_of_state : (s : State) → bytes_of s ≡ tab 32 (λ k. get_or (highest_first 4 (word_of s (k / 4))) (k % 4) 0)
unfolding bytes_of highest_first word_of tab
bytes_of_state s = refl

byte_of_state : (s : State) (k : ℕ) → k < 32 → get_or (bytes_of s) k 0 ≡ get_or (highest_first 4 (word_of s (k / 4))) (k % 4) 0
byte_of_state s k l = ap (λ bytes. get_or bytes k 0) (bytes_of_state s) ∙ get_or-tab 32 _ k 0 l

module _ (s : State) where
  pub length_state : length (bytes_of s) ≡ 32
  unfolding bytes_of highest_first tab
  length_state = refl

  pub state_bytes : Bytes (bytes_of s)
  state_bytes =
      subst Bytes (sym (bytes_of_state s))
      (tab_bytes 32 _ (λ k l. omega (arith, byte_of_word (word_of s (k / 4)) (k % 4) (omega arith))))

  pub bit_of_state : (k : ℕ) → k < 256 → bit_of_bytes (bytes_of s) k ≡ state_wires s k
  unfolding bit_of_bytes state_wires grid word_wires
  bit_of_state k l =
      let word : k / 8 / 4 ≡ k / 32 = omega arith in
      let place : 8 * (k / 8 % 4) + k % 8 ≡ k % 32 = omega arith in
      ap (λ y. y / 2 ^ (7 - k % 8) % 2) (byte_of_state s (k / 8) (omega arith))
      ∙ bit_of-word (word_of s (k / 8 / 4)) (k / 8 % 4) (k % 8) (omega arith) (omega arith)
      ∙ ap₂ (λ i j. bit i (word_of s j)) place word
