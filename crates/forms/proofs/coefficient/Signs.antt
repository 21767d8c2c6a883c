-- The signed number of a residue on either side of (p - 1) / 2. Up to there it is the residue itself; above, it is minus what the
-- residue lacks of p, which is at most (p - 1) / 2 and not 0. So no residue but 0 has the coefficient 0, and none is out of range.
use Rattle.std.proofs.Common.{◌≡◌, ℕ, zero, suc, ◌-◌, ◌<◌, ◌≤◌, Bool, true, false, leb, pos, neg_ℤ, nat_abs, sym, refl, ap, arith, le→leb, lt-ltb, le-leb, leb-false, leb-true}
use borrow.Author.Tests.{lt-leb}
use lib.IntN.{pos-ne-negsuc}
use lib.Signed.{le_z_yes}
use Rattle.field.specs.Field.{p}
use Rattle.forms.specs.Coefficients.{half, signed}
use Rattle.forms.specs.Shape.{InRange}

pub signed_low : (k : ℕ) → k ≤ half → signed k ≡ pos k
unfolding signed
signed_low k h = rw (le-leb k half h)

pub signed_high : (k : ℕ) → half < k → k < p → signed k ≡ neg_ℤ (pos (p - k))
unfolding signed
signed_high k h l =
    let rest : p - k ≡ suc (p - suc k) = omega arith in
    rw (lt-leb k half h, lt-ltb k p l) (sym (ap (λ (n : ℕ). neg_ℤ (pos n)) rest))

positive_in_range : (k : ℕ) → 1 ≤ k → k ≤ half → InRange (pos k)
positive_in_range k some most =
    record { not_zero = λ e. omega (arith, ap nat_abs e); least = le_z_yes tt; most = le_z_yes (le→leb k half most) }

negative_in_range : (k : ℕ) → 1 ≤ k → k ≤ half → InRange (neg_ℤ (pos k))
negative_in_range zero some most = absurd (omega arith)
negative_in_range (suc k) some most =
    record { not_zero = λ e. pos-ne-negsuc 0 k (sym e); least = le_z_yes (le→leb k (half - 1) (omega arith)); most = le_z_yes tt }

pub signed_in_range : (k : ℕ) → 1 ≤ k → k < p → InRange (signed k)
signed_in_range k some below = by_test (leb k half) refl
  where
    by_test : (t : Bool) → leb k half ≡ t → InRange (signed k)
    by_test true e =
        let low : k ≤ half = leb-true k half e in
        rw (signed_low k low) (positive_in_range k some low)
    by_test false e =
        let high : half < k = leb-false k half e in
        rw (signed_high k high below) (negative_in_range (p - k) (omega arith) (omega arith))
