-- A device of the contract of the private `pack_reading`, on which no public contract rests: what `read` keeps to, so that its values
-- have room in one number.
use Rattle.passage.specs.declared.numbers.Numbers.{Numbers}
use Rattle.refusal.specs.declared.outcome.Refusal.{Refusal}
use Rattle.std.specs.Prelude.{◌<◌, ◌^◌, Err, Ok, Result}
use Rattle.passage.specs.Front.{Fit}
use Rattle.refusal.specs.Packing.{above}
use Rattle.refusal.specs.Refusals.{refusal_values}

abbrev pub SmallReading : Result Numbers Refusal → Type 0
SmallReading (Ok n) = Fit n
SmallReading (Err r) = above (refusal_values r) < 2 ^ 56
