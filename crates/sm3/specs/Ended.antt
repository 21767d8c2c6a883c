-- A device of the functions that lay a block out, on which no public contract rests: the bytes of a record with the bit 1 behind its
-- last bit, and zeros.
use Rattle.std.specs.Prelude.{ℕ, ◌+◌, ◌-◌, ◌*◌, ◌/◌, ◌%◌, ◌^◌, cond, List, ◌==◌, slice_index}

-- the first bits of a byte, so many, then the bit 1, then zeros
abbrev pub cut_byte : ℕ → ℕ → ℕ
cut_byte used x = (x / 2 ^ (8 - used) * 2 + 1) * 2 ^ (7 - used)

-- byte x of the n bits of a record with the bit 1 behind them
abbrev pub ended_byte : ℕ → List ℕ → ℕ → ℕ
ended_byte n bytes x = cond (x == n / 8) (cut_byte (n % 8) (slice_index bytes x)) (slice_index bytes x)
