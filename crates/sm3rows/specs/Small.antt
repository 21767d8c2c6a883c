-- A device of the contract of the private `pack_row`, on which no public contract rests: what `row` keeps to, so that its values have
-- room in one number.
use Rattle.forms.specs.declared.terms.Counts.{Counts}
use Rattle.refusal.specs.declared.outcome.Refusal.{Refusal}
use Rattle.std.specs.Prelude.{◌<◌, ◌≤◌, ◌^◌, Err, Result, Ok}
use Rattle.forms.specs.Shape.{most_terms}
use Rattle.refusal.specs.Packing.{above}
use Rattle.refusal.specs.Refusals.{refusal_values}

abbrev pub SmallRow : Result Counts Refusal → Type 0
SmallRow (Ok n) = (n.a ≤ most_terms) × (n.b ≤ most_terms) × (n.c ≤ most_terms)
SmallRow (Err r) = above (refusal_values r) < 2 ^ 56
