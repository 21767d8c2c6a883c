-- The field: "p = 2^61 - 1 = 2305843009213693951" (document 01, "Field and assignment").
use Rattle.std.specs.Prelude.{ℕ, ◌-◌, ◌%◌, ℤ, negsuc, pos}

-- the prime
abbrev pub p : ℕ
p = 2305843009213693951

-- what a whole number is "modulo p", from 0 to p - 1; `negsuc n` is -(n + 1)
unfoldable pub residue : ℤ → ℕ
residue (pos n) = n % p
residue (negsuc n) = p - 1 - n % p
