-- Bytes in lower-case hexadecimal digits (document 02, request 1: "digest (64 lower-case hexadecimal digits)").
use Rattle.std.specs.Prelude.{Bool, cond, true, ◌&&◌, List, [], ◌∷◌, ℕ, zero, suc, ◌+◌, ◌-◌, ◌*◌, ◌/◌, ◌%◌, ltb, get_or}
use Rattle.encoding.specs.Sequence.{tab}
use Rattle.text.specs.Decimal.{is_digit_or}

-- whether c is a digit, 0 to 9 or a to f in ASCII
unfoldable pub is_hex : ℕ → Bool
is_hex c = is_digit_or 97 102 c

-- the value of a digit
unfoldable pub hex_value : ℕ → ℕ
hex_value c = cond (ltb c 97) (c - 48) (c - 87)

-- the digit of a value
unfoldable pub hex_digit : ℕ → ℕ
hex_digit v = cond (ltb v 10) (48 + v) (87 + v)

-- the digits of bytes, two a byte, its high half first
unfoldable pub hex : List ℕ → List ℕ
hex [] = []
hex (b ∷ d) = hex_digit (b / 16) ∷ hex_digit (b % 16) ∷ hex d

-- whether n digits stand in s from place `at` on
unfoldable pub all_hex : ℕ → List ℕ → ℕ → Bool
all_hex zero s at = true
all_hex (suc n) s at = is_hex (get_or s at 0) && all_hex n s (at + 1)

-- the n bytes that the 2 n digits in s from place `at` on write
unfoldable pub bytes_of_hex : ℕ → List ℕ → ℕ → List ℕ
bytes_of_hex n s at = tab n (λ k. 16 * hex_value (get_or s (at + 2 * k) 0) + hex_value (get_or s (at + 2 * k + 1) 0))
