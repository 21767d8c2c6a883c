-- Numbers in decimal (document 01, "What `rows` prints": "all numbers decimal").
use Rattle.std.specs.Prelude.{Bool, cond, ◌&&◌, ◌||◌, List, [], ◌∷◌, ◌++◌, ℕ, zero, suc, ◌+◌, ◌/◌, ◌%◌, leb, ltb, ℤ, negsuc, pos}
use Rattle.text.specs.Text.{hyphen}

-- whether c is a digit in ASCII
unfoldable pub is_digit : ℕ → Bool
is_digit c = leb 48 c && leb c 57

-- .. or a letter from one to another
unfoldable pub is_digit_or : ℕ → ℕ → ℕ → Bool
is_digit_or first last c = is_digit c || (leb first c && leb c last)

-- the digit d in ASCII
abbrev pub digit : ℕ → ℕ
digit d = 48 + d

-- the last k digits of x, or all of them where they are fewer, without leading zeros
unfoldable pub digits : ℕ → ℕ → List ℕ
digits zero x = []
digits (suc k) x = let high = digits k (x / 10) in cond (ltb x 10) (digit x ∷ []) (high ++ (digit (x % 10) ∷ []))

-- the digits of x, the highest first
unfoldable pub decimal : ℕ → List ℕ
decimal x = digits (suc x) x

-- x and the byte after it
unfoldable pub field : ℕ → ℕ → List ℕ
field x stop = decimal x ++ (stop ∷ [])

-- a signed number and the byte after it: "with a leading `-`" (document 02, request 7); `negsuc x` is -(x + 1)
unfoldable pub signed_field : ℤ → ℕ → List ℕ
signed_field (pos x) stop = field x stop
signed_field (negsuc x) stop = hyphen ∷ field (suc x) stop
