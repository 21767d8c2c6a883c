-- A device: which words each step has, which the code hands on with a row's place so that no number of a wire overflows. Every
-- row's place is in these ranges, by `in_frame`; no answer rests on them.
use Rattle.std.specs.Prelude.{ℕ, ◌<◌, ◌≤◌}
use Rattle.block.specs.Steps.{lines}
use Rattle.block.specs.declared.step.Step.TheVariants.{Start, Message, Q, P1, W, WPrime, U, Ss2, Ff, Gg, Tt1, Tt2, P0, Result, Digest, Appended}
use Rattle.block.specs.declared.step.Step.{Step}

-- a word from `low` on and below `high`, and a line below `count`
abbrev pub In : ℕ → ℕ → ℕ → ℕ → ℕ → Type 0
In low high count j l = (low ≤ j) × (j < high) × (l < count)

-- .. where m rows are appended
abbrev pub InStep : ℕ → Step → ℕ → ℕ → Type 0
InStep m Start j l = In 0 8 (lines Start j) j l
InStep m Message j l = In 0 16 (lines Message j) j l
InStep m Q j l = In 16 68 (lines Q j) j l
InStep m P1 j l = In 16 68 (lines P1 j) j l
InStep m W j l = In 16 68 (lines W j) j l
InStep m WPrime j l = In 0 64 (lines WPrime j) j l
InStep m U j l = In 0 64 (lines U j) j l
InStep m Ss2 j l = In 0 64 (lines Ss2 j) j l
InStep m Ff j l = In 0 64 (lines Ff j) j l
InStep m Gg j l = In 0 64 (lines Gg j) j l
InStep m Tt1 j l = In 0 64 (lines Tt1 j) j l
InStep m Tt2 j l = In 0 64 (lines Tt2 j) j l
InStep m P0 j l = In 0 64 (lines P0 j) j l
InStep m Result j l = In 0 8 (lines Result j) j l
InStep m Digest j l = In 0 8 (lines Digest j) j l
InStep m Appended j l = In 0 m (lines Appended j) j l
