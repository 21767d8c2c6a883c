-- Behind the first bits the bit 1 takes the place of one bit, and zeros follow; the shift drops nothing, since the result is a byte.
use Rattle.std.proofs.Common.{◌≡◌, ℕ, suc, ◌+◌, ◌-◌, ◌*◌, ◌/◌, ◌%◌, ◌^◌, ◌<◌, sym, ap, ◌∙◌, mod-eq_of_lt, add-one, arith, shr-shr}
use lib.Pow.{shr_le}
use Rattle.sm3.proofs.message.Padding.{cut_byte_lem, cut_lt}
use Rattle.sm3.specs.Ended.{cut_byte}
use Rattle.sm3.proofs.message.cut_byte.Goals as goal

cut : (x used : ℕ) → x < 256 → used < 8
    → (x / 2 ^ (7 - used) / 2 * 2 + 1) * 2 ^ (7 - used) % 2 ^ 8 ≡ cut_byte used x
cut x used l h =
    let first : x / 2 ^ (7 - used) / 2 ≡ x / 2 ^ suc (7 - used) =
    shr-shr x (7 - used) 1 ∙ ap (λ k. x / 2 ^ k) (add-one (7 - used)) in
    ap (λ t. (t * 2 + 1) * 2 ^ (7 - used) % 2 ^ 8) first
    ∙ mod-eq_of_lt (cut_lt used (7 - used) x (omega arith) l)
    ∙ sym (cut_byte_lem used x h)

pub overflow_mul-result : goal.overflow_mul-result
overflow_mul-result c = omega (arith, shr_le c.args.x (7 - c.args.used))

pub overflow_add-result : goal.overflow_add-result
overflow_add-result c = omega (arith, shr_le c.args.x (7 - c.args.used))

pub returns : goal.returns
returns c = cut c.args.x c.args.used c.ranges.x.fits c.requires
