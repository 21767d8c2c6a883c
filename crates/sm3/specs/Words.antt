-- Words (document 01, "SM3 as used"). A word is a number below 2^32.
use Rattle.std.specs.Prelude.{ℕ, ◌+◌, ◌-◌, ◌*◌, ◌/◌, ◌%◌, ◌^◌}

-- "Words have 32 bits, the first bit the highest": bit i of the word x
unfoldable pub bit : ℕ → ℕ → ℕ
bit i x = x / 2 ^ (31 - i) % 2

-- "`<<<` turns left": the word x rotated by k bits, k at most 32
unfoldable pub rotate_left : ℕ → ℕ → ℕ
rotate_left k x = x * 2 ^ k % 2 ^ 32 + x / 2 ^ (32 - k)
