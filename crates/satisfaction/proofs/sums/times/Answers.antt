-- k times 0 or 1 is at most k, so it is its own residue.
use mathlib.Core.Path.{sym}
use Prim.Native.Nat.{ℕ, ◌*◌, ◌≤◌, ◌<◌}
use native.Mathlib.Nat.{mod-eq_of_lt, mul-le-mul_left}
use native.Mathlib.Omega.{arith}
use Rattle.field.specs.Field.{p}
use Rattle.satisfaction.proofs.sums.times.Goals as goal

times-bit : (k x : ℕ) → k < p → x ≤ 1 → k * x < p
times-bit k x h l =
    let least : k * x ≤ k * 1 = mul-le-mul_left k l in omega arith

pub returns-then-x-gt1 : goal.returns-then-x-gt1
returns-then-x-gt1 c = c.product.ensures

pub overflow_mul-result : goal.overflow_mul-result
overflow_mul-result c = omega (arith, times-bit c.args.k c.args.x c.requires.0 c.if-x-gt1.false)

pub returns : goal.returns
returns c = sym (mod-eq_of_lt (times-bit c.args.k c.args.x c.requires.0 c.if-x-gt1.false))
