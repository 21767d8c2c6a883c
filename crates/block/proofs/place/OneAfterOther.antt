-- Steps one after the other, from step i of some on: the rows up to its own count are that step's, those behind are of the steps from
-- the next one on, and behind them all come those of the last step.
use mathlib.Core.List.{List}
use mathlib.Core.Path.{◌≡◌}
use Prim.Native.Nat.{ℕ, ◌+◌, ◌-◌, ◌<◌, ◌≤◌}
use borrow.Author.Tests.{le-ltb, lt-ltb}
use lib.ListN.{drop, get_or, length}
use Rattle.std.proofs.lemmas.List.{drop_all, drop_more}
use Rattle.block.specs.Steps.{lines, one_after_other}
use Rattle.block.specs.declared.step.Step.{Step}
use Rattle.encoding.specs.Sequence.{beside}

module _ {A : Type 0} (word : Step → ℕ → ℕ → A) (steps : List Step) (last : Step) (i j k : ℕ) (d : Step) where
  pub first_step : i < length steps → k < lines (get_or steps i d) j → one_after_other word (drop i steps) last j k ≡ word (get_or steps i d) j k
  unfolding one_after_other beside
  first_step h l = rw (drop_more steps i d h, lt-ltb _ _ l)

  pub later_steps : i < length steps → lines (get_or steps i d) j ≤ k
      → one_after_other word (drop i steps) last j k ≡ one_after_other word (drop (i + 1) steps) last j (k - lines (get_or steps i d) j)
  unfolding one_after_other beside
  later_steps h l = rw (drop_more steps i d h, le-ltb _ _ l)

  pub last_step : length steps ≤ i → one_after_other word (drop i steps) last j k ≡ word last j k
  unfolding one_after_other
  last_step h = rw (drop_all i steps h)
