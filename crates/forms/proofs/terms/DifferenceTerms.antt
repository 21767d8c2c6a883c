-- The terms of a number: how many there are, and that their residues are not zero and are below p. The bit i of a number of n bits weighs
-- 2^(n - 1 - i), so k times it is between 1 and 640 where n is at most 7, far below p.
use Rattle.std.proofs.Common.{◌≡◌, ℕ, ◌-◌, ◌*◌, ◌^◌, ◌<◌, ◌≤◌, Bool, true, false, length, mul-le-mul, arith, pow_pos, pow_mono}
use Rattle.encoding.proofs.Tab.{length-tab}
use Rattle.field.specs.Field.{p}
use Rattle.forms.proofs.terms.Pushed.{number_term}
use Rattle.forms.specs.Rows.{number_terms, with_sign}
use Rattle.refusal.specs.declared.numbers.WireNumber.{WireNumber}

pub few : (k x : ℕ) → k ≤ 10 → x ≤ 64 → k * x ≤ 640
few k x h l = mul-le-mul h l

pub weight_few : (n i : ℕ) → n ≤ 7 → 2 ^ (n - 1 - i) ≤ 64
weight_few n i h = pow_mono {j = 6} (omega arith)

-- a number that is put on or taken off is not zero, and is below p
pub with_sign_range : (plus : Bool) (k : ℕ) → 1 ≤ k → k < p → (1 ≤ with_sign plus k) × (with_sign plus k < p)
with_sign_range true k h l = (h, l)
with_sign_range false k h l = (omega arith, omega arith)

pub number-length : (plus : Bool) (k n : ℕ) (w : WireNumber) → length (number_terms plus k n w) ≡ n
unfolding number_terms
number-length plus k n w = length-tab n (number_term plus k n w)

pub number_range : (plus : Bool) (k n : ℕ) (w : WireNumber) → 1 ≤ k → k ≤ 10 → n ≤ 7 → (i : ℕ)
    → (1 ≤ (number_term plus k n w i).residue) × ((number_term plus k n w i).residue < p)
number_range plus k n w some small short i =
    with_sign_range plus (k * 2 ^ (n - 1 - i)) (mul-le-mul some (pow_pos (n - 1 - i)))
    (omega (arith, few k (2 ^ (n - 1 - i)) small (weight_few n i short)))
