-- How long a record may be, and how many blocks its message has (document 01, "SM3 as used"; document 02, request 2).
use Rattle.std.specs.Prelude.{ℕ, ◌+◌, ◌/◌}

-- "The length becomes a bit count from 0 to 8,127 everywhere"
abbrev pub most_bits : ℕ
most_bits = 8127

-- "blocks are floor((bits + 64) / 512) + 1"
unfoldable pub blocks : ℕ → ℕ
blocks n = (n + 64) / 512 + 1
