-- Where the parts of a circuit begin, which is the same for every circuit (document 01, "Wires").
use Rattle.std.specs.Prelude.{ℕ, ◌+◌, ◌*◌}
use Rattle.block.specs.Wires.{wires_per_block}

-- "Wires 1 to 256: digest. 257 to 512: start words. Then 22,528 a block"
abbrev pub digest_first : ℕ
digest_first = 1

abbrev pub start_first : ℕ
start_first = 257

abbrev pub first_block : ℕ
first_block = 513

abbrev pub block_first : ℕ → ℕ
block_first i = first_block + wires_per_block * i
