-- A word is the number that its 32 bits write, so it is determined by them.
use Rattle.std.proofs.Common.{◌≡◌, ℕ, ◌^◌, ◌<◌, sym, ◌∙◌, mod-eq_of_lt}
use Rattle.encoding.proofs.Bits.{bit_of-number, number_cong, number_of-bits}
use Rattle.encoding.specs.Bits.{number}
use Rattle.sm3.specs.Words.{bit}

-- a word is the weighted sum of its bits
pub number-bits : (x : ℕ) → x < 2 ^ 32 → number 32 (λ i. bit i x) ≡ x
unfolding bit
number-bits x h = number_of-bits 32 x ∙ mod-eq_of_lt h

-- the bits of the word that 32 bits write
pub bit-number : (b : ℕ → ℕ) (i : ℕ) → ((j : ℕ) → j < 32 → b j < 2) → i < 32 → bit i (number 32 b) ≡ b i
unfolding bit
bit-number b i h l = bit_of-number 32 b i h l

-- a word is determined by its bits
pub word_ext : (x y : ℕ) → x < 2 ^ 32 → y < 2 ^ 32 → ((i : ℕ) → i < 32 → bit i x ≡ bit i y) → x ≡ y
word_ext x y hx hy e = sym (number-bits x hx) ∙ number_cong 32 (λ i. bit i x) (λ i. bit i y) e ∙ number-bits y hy
