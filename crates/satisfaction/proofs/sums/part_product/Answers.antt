-- At most 2 times a residue is below 2 p, so that one subtraction of p leaves its residue.
use mathlib.Core.Path.{sym}
use Prim.Native.Nat.{ℕ, ◌*◌, ◌≤◌, ◌<◌}
use native.Mathlib.Nat.{mod-eq_of_lt, mul_comm, mul-le-mul_left}
use native.Mathlib.Omega.{arith}
use Rattle.field.specs.Field.{p}
use Rattle.satisfaction.proofs.sums.part_product.Goals as goal

twice : (a b : ℕ) → a ≤ 2 → b < p → a * b < 2 * p
twice a b h l =
    let least : b * a ≤ b * 2 = mul-le-mul_left b h in omega (arith, mul_comm a b)

pub returns-then-a-gt2 : goal.returns-then-a-gt2
returns-then-a-gt2 c = c.product.ensures

pub overflow_mul-whole : goal.overflow_mul-whole
overflow_mul-whole c = omega (arith, twice c.args.a c.args.b c.if-a-gt2.false c.requires.1)

pub returns-then-whole-lt-P : goal.returns-then-whole-lt-P
returns-then-whole-lt-P c = sym (mod-eq_of_lt c.if-whole-lt-P.true)

pub returns-else-whole-lt-P : goal.returns-else-whole-lt-P
returns-else-whole-lt-P c =
    let below = twice c.args.a c.args.b c.if-a-gt2.false c.requires.1 in
    omega (arith, below)
