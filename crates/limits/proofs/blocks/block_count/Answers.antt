-- The code is the definition.
use borrow.Author.Rules.{rules}
use Rattle.limits.specs.Blocks.{blocks}
use Rattle.limits.proofs.blocks.block_count.Goals as goal

pub returns : goal.returns
unfolding blocks
returns c = search rules
