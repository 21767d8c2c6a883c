-- The answer of `passage_read` toward a C host: one 64-bit number (docs/HOST.md). The other functions' is `packed_outcome` of refusal.
use Rattle.refusal.specs.declared.outcome.Refusal.{Refusal}
use Rattle.std.specs.Prelude.{ℕ, ◌+◌, ◌*◌, ◌^◌, Err, Ok, Result}
use Rattle.passage.specs.declared.numbers.Numbers.{Numbers}
use Rattle.refusal.specs.Packing.{packed}
use Rattle.refusal.specs.Refusals.{refusal_number, refusal_values}

-- the lane at bits 8 to 17, the time at 18 to 51, the class at 52 to 55, the axles at 56 to 62
abbrev pub packed_reading : Result Numbers Refusal → ℕ
packed_reading (Ok n) = 2 ^ 8 * n.lane + 2 ^ 18 * n.time + 2 ^ 52 * n.class + 2 ^ 56 * n.axles
packed_reading (Err r) = packed (refusal_number r) (refusal_values r)

-- four numbers as they are handed over
abbrev pub numbers_of : ℕ → ℕ → ℕ → ℕ → Numbers
numbers_of lane time class axles = record { lane = lane; time = time; class = class; axles = axles }
