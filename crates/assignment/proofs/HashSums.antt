-- The hash's sums and the carries of the sum rows. `sum_of_3` and `sum_of_4` drop what passes 2^32; what they keep and what passes make
-- up the sum with nothing dropped, so the layout's two carries of that sum are the two bits of what passes.
use Rattle.std.proofs.Common.{◌≡◌, ℕ, ◌/◌, ◌%◌, ◌^◌, arith}
use Rattle.assignment.specs.Sum.{IsSum}
use Rattle.assignment.specs.declared.sum.Sum.{Sum}
use Rattle.forms.specs.WordWires.{carry_wires}

passed : (s : Sum) (whole : ℕ) → IsSum s whole → s.carry ≡ whole / 2 ^ 32
passed s whole h = omega (arith, h.word, h.carry)

pub higher_carry : (s : Sum) (whole : ℕ) → IsSum s whole → s.carry / 2 % 2 ≡ carry_wires whole 0
unfolding carry_wires
higher_carry s whole h = omega (arith, passed s whole h)

pub lower_carry : (s : Sum) (whole : ℕ) → IsSum s whole → s.carry % 2 ≡ carry_wires whole 1
unfolding carry_wires
lower_carry s whole h = omega (arith, passed s whole h)
