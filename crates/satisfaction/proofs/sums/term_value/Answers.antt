-- The entry of the term's wire is taken times its residue.
use mathlib.Core.Path.{◌∙◌, ap, subst, sym}
use Prim.Native.Nat.{ℕ, ◌*◌, ◌%◌, ◌<◌}
use Rattle.field.specs.Field.{p}
use Rattle.satisfaction.proofs.sums.term_value.Goals as goal

pub times-requires : goal.times-requires
times-requires c =
    (c.requires.1, subst (λ (x : ℕ). x < p) (sym c.read.ensures) (c.requires.2.each _))

pub returns : goal.returns
returns c =
    c.times.ensures
    ∙ ap (λ (y : ℕ). (c.args.term.residue * y) % p) c.read.ensures
