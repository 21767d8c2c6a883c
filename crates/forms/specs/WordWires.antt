-- The wires of a word and of a sum, from their values (document 01, "Wires").
use Rattle.std.specs.Prelude.{ℕ, ◌-◌, ◌/◌, ◌%◌, ◌^◌}
use Rattle.encoding.specs.Sequence.{beside}
use Rattle.sm3.specs.Sm3.{truncated}
use Rattle.sm3.specs.Words.{bit}

-- "A word's wires run from the highest bit": the 32 wires of a word
unfoldable pub word_wires : ℕ → ℕ → ℕ
word_wires x i = bit i x

-- "The 2 carries .. are the two bits of floor(s / 2^32), the higher first; s is the sum with nothing dropped"
unfoldable pub carry_wires : ℕ → ℕ → ℕ
carry_wires s i = s / 2 ^ 32 / 2 ^ (1 - i) % 2

-- a sum's word and its 2 carries
unfoldable pub sum_wires : ℕ → ℕ → ℕ
sum_wires s = beside 32 (word_wires (truncated s)) (carry_wires s)

-- "4 bits each", "7 bits each", "highest bit first" (document 02, request 5): the n wires of a number
unfoldable pub number_wires : ℕ → ℕ → ℕ → ℕ
number_wires n x i = x / 2 ^ (n - 1 - i) % 2
