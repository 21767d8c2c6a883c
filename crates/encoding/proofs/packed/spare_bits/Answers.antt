-- Bits that fill their last byte leave none; else the spare ones are that byte modulo a power of two.
use mathlib.Core.Path.{◌∙◌, ap₂, subst, sym}
use Prim.Native.Nat.{◌-◌, ◌%◌, ◌<◌}
use native.Mathlib.Omega.{arith}
use lib.Pow.{pow_pos}
use Rattle.encoding.proofs.Bits.{one_shifted}
use Rattle.encoding.proofs.PackedBits.{spare_low, spare_none}
use Rattle.encoding.proofs.packed.spare_bits.Goals as goal

pub returns-then-used-eq0 : goal.returns-then-used-eq0
returns-then-used-eq0 c = sym (spare_none _ _ c.if-used-eq0.true)

pub nonzero_rem-result : goal.nonzero_rem-result
nonzero_rem-result c = subst (λ m. 0 < m) (sym (one_shifted _ (omega arith))) (pow_pos _)

pub returns : goal.returns
returns c =
    let a = c.args in
    ap₂ (λ x m. x % m) c.from.ensures (one_shifted (8 - a.n % 8) (omega arith))
    ∙ sym (spare_low a.n a.packed.now (omega arith))
