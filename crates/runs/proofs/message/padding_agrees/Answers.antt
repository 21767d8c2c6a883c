-- Before turn k the padding bits of the block below its bit k stand on their wires.
use mathlib.Core.Bool.{false≢true}
use mathlib.Core.Logic.{by_cases}
use mathlib.Core.Path.{◌≡◌, ◌∙◌, ap, subst, sym}
use Prim.Native.Nat.{◌+◌, ◌-◌, ◌*◌}
use native.Mathlib.Decide.{dec_lt}
use native.Mathlib.Omega.{arith}
use Rattle.assignment.specs.Assignment.{entry}
use Rattle.sm3.specs.Message as standard
use Rattle.runs.proofs.message.padding_agrees.Goals as goal

pub loop-k-init : goal.loop-k-init
loop-k-init c = (omega arith, c.content_bits-k.ensures.0, λ j l h. absurd (omega arith))

pub padding_bit-requires : goal.padding_bit-requires
padding_bit-requires c =
    let m = c.requires.0 in (
      m.bits,
      omega (arith, c.content_bits-k.ensures.2 (omega arith), c.loop-k.invariant.0),
      omega (arith, m.from, m.below),
    )

pub returns-then-read-padding_bit : goal.returns-then-read-padding_bit
returns-then-read-padding_bit c = λ e. absurd (false≢true e)

pub loop-k-preserved : goal.loop-k-preserved
loop-k-preserved c =
    let a = c.args in
    let k = c.loop-k.k in (
      omega arith,
      omega arith,
      λ j l h.
          by_cases (dec_lt j k) (λ before. c.loop-k.invariant.2 j l before)
          (λ at.
          let same : k ≡ j = omega arith in
          subst (λ j. entry a.assignment.now (c.block_first-first.result.0 + j) ≡ standard.message a.message.bits (λ i. 0) (512 * (a.i - a.message.begin) + j)) same
          (sym c.read.ensures ∙ c.if-read-padding_bit.false ∙ c.padding_bit.ensures.0)),
    )

pub returns : goal.returns
returns c =
    λ e.
    record {
      each =
          λ k l past.
          ap (λ w. entry c.args.assignment.now (w + k)) (sym c.block_first-first.ensures.0)
          ∙ c.loop-k.invariant.2 k (c.content_bits-k.ensures.1 k l past) (omega arith);
    }
