-- Terms that are put on one list after the other, without the zero ones, are put on as one list; and a sequence is put on term by term. The
-- term of a number's bit i, from the highest on, weighs 2^(n - 1 - i).
use Rattle.std.proofs.Common.{◌≡◌, ℕ, ◌+◌, ◌-◌, ◌*◌, ◌%◌, ◌^◌, ◌≤◌, Bool, false, List, None, Some, [], ◌∷◌, ◌++◌, sym, ap, ◌∙◌, append_assoc, append-nil, add-one, one-mul, arith, pow_mono}
use Rattle.encoding.proofs.Tab.{tab_congruent}
use Rattle.encoding.specs.Sequence.{tab}
use Rattle.forms.proofs.shape.Nonzero.{nonzero_append}
use Rattle.forms.specs.Positions.{at, wire_at}
use Rattle.forms.specs.Rows.{◌·◌, addend_terms, digit_terms, less, nonzero, number_terms, taken, weighted, with_sign}
use Rattle.forms.specs.declared.form.Addends.{Addends}
use Rattle.forms.specs.declared.form.Digits.{Digits}
use Rattle.forms.specs.declared.form.Term.{Term}
use Rattle.forms.specs.declared.position.WordPosition.{WordPosition}
use Rattle.refusal.specs.declared.numbers.WireNumber.{WireNumber}

pub pushed_none : (xs : List Term) → xs ≡ xs ++ nonzero []
unfolding nonzero
pushed_none xs = sym (append-nil xs)

pub pushed_then : (xs us vs : List Term) {ys zs : List Term} → ys ≡ xs ++ nonzero us → zs ≡ ys ++ nonzero vs → zs ≡ xs ++ nonzero (us ++ vs)
pushed_then xs us vs e f =
    f ∙ ap (λ l. l ++ nonzero vs) e ∙ append_assoc xs (nonzero us) (nonzero vs) ∙ ap (λ l. xs ++ l) (sym (nonzero_append us vs))

pub pushed_next : (xs : List Term) (f : ℕ → Term) (i : ℕ) {t : Term} {ys zs : List Term} → ys ≡ xs ++ nonzero (tab i f) → t ≡ f i
    → zs ≡ ys ++ nonzero (t ∷ []) → zs ≡ xs ++ nonzero (tab (i + 1) f)
unfolding tab
pushed_next xs f i {t} p e q = rw (add-one i, ← e) (pushed_then xs (tab i f) (t ∷ []) p q)

-- the term of bit i of a number, and of a word

abbrev pub number_term : Bool → ℕ → ℕ → WireNumber → ℕ → Term
number_term plus k n w i = with_sign plus (k * 2 ^ (n - 1 - i)) · at w i

abbrev pub word_term : WordPosition → ℕ → Term
word_term x i = (2 ^ (31 - i)) · wire_at x i

pub shifted : (e : ℕ) → e ≤ 31 → (1 * 2 ^ e) % 2 ^ 64 ≡ 2 ^ e
shifted e h = omega (arith, pow_mono {j = 31} h)

-- a result's 32 wires are taken off as the number that they write
pub taken_pushed : (r : WireNumber) (xs ys zs vs : List Term) → ys ≡ xs ++ nonzero (number_terms false 1 32 r)
    → zs ≡ ys ++ nonzero (less (2 ^ 33) · at r 32 ∷ []) → vs ≡ zs ++ nonzero (less (2 ^ 32) · at r 33 ∷ []) → vs ≡ xs ++ nonzero (taken r)
unfolding taken number_terms
taken_pushed r xs ys zs vs e f g =
    let high = less (2 ^ 33) · at r 32 ∷ [] in
    let low = less (2 ^ 32) · at r 33 ∷ [] in
    let bits : tab 32 (number_term false 1 32 r) ≡ tab 32 (λ i. less (2 ^ (31 - i)) · at r i) =
    tab_congruent 32 _ _ (λ i l. ap (λ k. less k · at r i) (one-mul (2 ^ (31 - i)))) in
    pushed_then xs (tab 32 (λ i. less (2 ^ (31 - i)) · at r i)) (high ++ low) (e ∙ ap (λ ts. xs ++ nonzero ts) bits)
    (pushed_then ys high low f g)

pub two_pushed : (s : Addends) (xs ys zs : List Term) → s.more ≡ None → ys ≡ xs ++ nonzero (weighted s.x) → zs ≡ ys ++ nonzero (weighted s.y)
    → zs ≡ xs ++ nonzero (addend_terms s)
unfolding addend_terms
two_pushed s xs ys zs none e f = rw (none, append-nil (weighted s.x ++ weighted s.y)) (pushed_then xs (weighted s.x) (weighted s.y) e f)

pub four_pushed : (s : Addends) (z t : WordPosition) (xs ys zs us vs : List Term) → s.more ≡ Some (z, t) → ys ≡ xs ++ nonzero (weighted s.x)
    → zs ≡ ys ++ nonzero (weighted s.y) → us ≡ zs ++ nonzero (weighted z) → vs ≡ us ++ nonzero (weighted t) → vs ≡ xs ++ nonzero (addend_terms s)
unfolding addend_terms
four_pushed s z t xs ys zs us vs some e f g h =
    rw some
    (pushed_then xs (weighted s.x ++ weighted s.y) (weighted z ++ weighted t) (pushed_then xs (weighted s.x) (weighted s.y) e f)
    (pushed_then zs (weighted z) (weighted t) g h))

pub one_digit : (plus : Bool) (d : Digits) (xs ys : List Term) → d.tens ≡ None → ys ≡ xs ++ nonzero (number_terms plus 1 4 d.units)
    → ys ≡ xs ++ nonzero (digit_terms plus d)
unfolding digit_terms
one_digit plus d xs ys none e = rw (none, append-nil (number_terms plus 1 4 d.units)) e

pub two_digits : (plus : Bool) (d : Digits) (w : WireNumber) (xs ys zs : List Term) → d.tens ≡ Some w
    → ys ≡ xs ++ nonzero (number_terms plus 1 4 d.units) → zs ≡ ys ++ nonzero (number_terms plus 10 4 w) → zs ≡ xs ++ nonzero (digit_terms plus d)
unfolding digit_terms
two_digits plus d w xs ys zs some e f = rw some (pushed_then xs (number_terms plus 1 4 d.units) (number_terms plus 10 4 w) e f)

-- three lists, put on where nothing was
pub three_pushed : (us vs ws ps xs ys zs : List Term) → ps ≡ [] → xs ≡ ps ++ nonzero us → ys ≡ xs ++ nonzero vs → zs ≡ ys ++ nonzero ws
    → zs ≡ nonzero (us ++ vs ++ ws)
three_pushed us vs ws ps xs ys zs none e f g =
    pushed_then [] (us ++ vs) ws (pushed_then [] us vs (e ∙ ap (λ l. l ++ nonzero us) none) f) g
