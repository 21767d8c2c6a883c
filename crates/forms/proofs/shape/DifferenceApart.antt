-- The terms of a difference's row: those of its digits, of its bound on wire 0 and of its bits, each a run of wires. Where the runs do not
-- overlap, all wires differ.
use Rattle.std.proofs.Common.{◌≡◌, ℕ, ◌+◌, ◌^◌, ◌<◌, ◌≤◌, Bool, false, not, List, [], ◌∷◌, ◌++◌, IfSome, length, None, Option, Some, refl, append_assoc, arith, lit≤, length-append}
use Rattle.field.specs.Field.{p}
use Rattle.forms.proofs.shape.All.{all_append, all_tab, pairwise_tab}
use Rattle.forms.proofs.shape.Clear.{Clear}
use Rattle.forms.proofs.shape.Rises.{Part}
use Rattle.forms.proofs.shape.TermRuns.{Off, On, Run, constant-run, run-before, run_off, run_part}
use Rattle.forms.proofs.terms.DifferenceTerms.{number-length, number_range, with_sign_range}
use Rattle.forms.specs.Positions.{one}
use Rattle.forms.specs.Rows.{◌·◌, bound_value, digit_terms, is_lower, number_terms, tens_terms, with_sign}
use Rattle.forms.specs.Shape.{All}
use Rattle.forms.specs.declared.form.Bound.{Bound}
use Rattle.forms.specs.declared.form.Digits.{Digits}
use Rattle.forms.specs.declared.form.Term.{Term}
use Rattle.refusal.specs.declared.numbers.WireNumber.{WireNumber}

-- digits, where there are two of them, and n bits from r on, none of them on wire 0 or past m, do not overlap; the bound is in range
pub record ApartDifference (m : ℕ) (d : Digits) (bound : Bound) (n r : ℕ) : Type 0 where
  pub units : (1 ≤ d.units.0) × (d.units.0 + 4 ≤ m) × Clear d.units.0 4 r n
  pub tens : IfSome d.tens (λ w. (1 ≤ w.0) × (w.0 + 4 ≤ m) × Clear w.0 4 r n × Clear d.units.0 4 w.0 4)
  pub result : (1 ≤ r) × (r + n ≤ m)
  pub least : 1 ≤ bound_value bound
  pub most : bound_value bound < 2 ^ 32
  pub few : n ≤ 7

number-run : (plus : Bool) (k n : ℕ) (w : WireNumber) → 1 ≤ k → k ≤ 10 → n ≤ 7 → Run w.0 n (number_terms plus k n w)
unfolding number_terms
number-run plus k n w some small short =
    record {
      on = all_tab (On w.0 n) n _ (λ i h. omega arith);
      distinct = pairwise_tab _ n _ (λ i j h l. omega arith);
      residues = all_tab (λ (t : Term). t.residue < p) n _ (λ i h. (number_range plus k n w some small short i).1);
    }

module _ (m : ℕ) (d : Digits) (bound : Bound) (n : ℕ) (r : WireNumber) (h : ApartDifference m d bound n r.0) where
  abbrev above : Bool
  above = is_lower bound

  -- the bound, put on or taken off
  abbrev limit : ℕ
  limit = with_sign (not above) (bound_value bound)

  abbrev constant : List Term
  constant = limit · one ∷ []

  abbrev bits : List Term
  bits = number_terms false 1 n r

  bits-run : Run r.0 n bits
  bits-run = number-run false 1 n r (lit≤ tt) (lit≤ tt) h.few

  -- what follows the digits
  abbrev rest : List Term
  rest = limit · one ∷ bits

  rest_part : Part m rest
  rest_part =
      run-before 0 1 constant (constant-run _ (with_sign_range (not above) (bound_value bound) h.least (omega (arith, h.most))).1) m bits
      (omega (arith, h.result)) (run_part r.0 n bits bits-run m h.result.1)
      (run_off r.0 n bits bits-run 0 1 (omega (arith, h.result)))

  -- a digit before it, on wires that are clear of the bits
  digit-run : (k : ℕ) (w : WireNumber) → 1 ≤ k → k ≤ 10 → Run w.0 4 (number_terms above k 4 w)
  digit-run k w some small = number-run above k 4 w some small (lit≤ tt)

  rest_off : (w : ℕ) → 1 ≤ w → Clear w 4 r.0 n → Off w 4 (limit · one) × All (Off w 4) bits
  rest_off w low clear = (omega arith, run_off r.0 n bits bits-run w 4 clear)

  digits_part : (tens : Option WireNumber) → d.tens ≡ tens → Part m (number_terms above 1 4 d.units ++ (tens_terms above tens ++ rest))
  digits_part (Some w) e =
      let t = rw e at h.tens in
      let tens = number_terms above 10 4 w in
      let tens-run = digit-run 10 w (lit≤ tt) (lit≤ tt) in
      run-before d.units.0 4 (number_terms above 1 4 d.units) (digit-run 1 d.units (lit≤ tt) (lit≤ tt)) m (tens ++ rest) h.units.1
      (run-before w.0 4 tens tens-run m rest t.1 rest_part (rest_off w.0 t.0 t.2))
      (all_append (Off d.units.0 4) tens rest (run_off w.0 4 tens tens-run d.units.0 4 t.3)
      (rest_off d.units.0 h.units.0 h.units.2))
  digits_part None e =
      run-before d.units.0 4 (number_terms above 1 4 d.units) (digit-run 1 d.units (lit≤ tt) (lit≤ tt)) m rest h.units.1 rest_part
      (rest_off d.units.0 h.units.0 h.units.2)

  pub difference_part : Part m (digit_terms above d ++ constant ++ bits)
  unfolding digit_terms
  difference_part =
      rw (
        append_assoc (digit_terms above d) constant bits,
        append_assoc (number_terms above 1 4 d.units) (tens_terms above d.tens) rest,
      )
      (digits_part d.tens refl)

digits_few : (plus : Bool) (d : Digits) → length (digit_terms plus d) ≤ 8
unfolding digit_terms
digits_few plus d = omega (arith, length-append (number_terms plus 1 4 d.units) (tens_terms plus d.tens), number-length plus 1 4 d.units, more d.tens)
  where
    more : (tens : Option WireNumber) → length (tens_terms plus tens) ≤ 4
    more (Some w) = omega (arith, number-length plus 10 4 w)
    more None = omega arith

pub difference_few : (above : Bool) (d : Digits) (k n : ℕ) (r : WireNumber) → n ≤ 7
    → length (digit_terms above d ++ (k · one ∷ []) ++ number_terms false 1 n r) ≤ 16
difference_few above d k n r h =
    omega (
      arith,
      length-append (digit_terms above d ++ (k · one ∷ [])) (number_terms false 1 n r),
      length-append (digit_terms above d) (k · one ∷ []),
      digits_few above d,
      number-length false 1 n r,
    )
