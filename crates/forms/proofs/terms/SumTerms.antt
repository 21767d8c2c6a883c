-- How many terms a sum has: 32 for each word, one for the constant unless it is 0, 34 for the result and its carries, and the 1 of B. No other
-- is zero: a weight is a power of two, and p less a power of two below it is not 0.
use Rattle.std.proofs.Common.{◌≡◌, ℕ, ◌+◌, ◌-◌, ◌*◌, ◌^◌, ◌≤◌, List, [], ◌∷◌, ◌++◌, length, None, Option, Some, sym, refl, ap, ap₂, ◌∙◌, append_assoc, append-nil, arith, length-append, pow_pos, pow_mono}
use Rattle.encoding.proofs.Tab.{length-tab}
use Rattle.encoding.specs.Sequence.{tab}
use Rattle.forms.proofs.shape.Nonzero.{nonzero_append, nonzero_both, nonzero-tab}
use Rattle.forms.specs.Positions.{at, one}
use Rattle.forms.specs.Rows.{◌·◌, addend_terms, less, letters, more_terms, nonzero, taken, terms, weighted}
use Rattle.forms.specs.Shape.{most_terms}
use Rattle.forms.specs.Terms.{term_count, unsorted}
use Rattle.forms.specs.declared.form.Addends.{Addends}
use Rattle.forms.specs.declared.form.Form.TheVariants.{Sum}
use Rattle.forms.specs.declared.form.Term.{Term}
use Rattle.forms.specs.declared.position.WordPosition.{WordPosition}
use Rattle.refusal.specs.declared.numbers.WireNumber.{WireNumber}

weighted-length : (x : WordPosition) → length (weighted x) ≡ 32
unfolding weighted
weighted-length x = length-tab 32 _

taken-length : (r : WireNumber) → length (taken r) ≡ 34
unfolding taken
taken-length r =
    simp length-append (ap (λ (n : ℕ). n + 2) (length-tab 32 (λ i. less (2 ^ (31 - i)) · at r i)))

-- the words that are added up, and their terms
abbrev pub more_words : Option (WordPosition × WordPosition) → List WordPosition
more_words None = []
more_words (Some words) = words.0 ∷ words.1 ∷ []

abbrev pub addend_words : Addends → List WordPosition
addend_words s = s.x ∷ s.y ∷ more_words s.more

unfoldable pub weighted_all : List WordPosition → List Term
weighted_all [] = []
weighted_all (x ∷ xs) = weighted x ++ weighted_all xs

pub addends_weighted : (s : Addends) → addend_terms s ≡ weighted_all (addend_words s)
unfolding addend_terms weighted_all
addends_weighted s = append_assoc (weighted s.x) (weighted s.y) _ ∙ ap (λ l. weighted s.x ++ (weighted s.y ++ l)) (more s.more)
  where
    more : (m : Option (WordPosition × WordPosition)) → more_terms m ≡ weighted_all (more_words m)
    more (Some (z, t)) = ap (λ l. weighted z ++ l) (sym (append-nil (weighted t)))
    more None = refl

words-length : (xs : List WordPosition) → length (weighted_all xs) ≡ 32 * length xs
unfolding weighted_all
words-length [] = refl
words-length (x ∷ xs) = omega (arith, length-append (weighted x) (weighted_all xs), weighted-length x, words-length xs)

pub addends_length : (s : Addends) → length (addend_terms s) ≡ 32 * length (addend_words s)
addends_length s = ap length (addends_weighted s) ∙ words-length (addend_words s)

-- None but the constant is zero.

weight_pos : (i : ℕ) → 2 ^ (31 - i) ≡ 0 → ⊥
weight_pos i e = omega (arith, pow_pos (31 - i))

less_pos : (i : ℕ) → less (2 ^ (31 - i)) ≡ 0 → ⊥
less_pos i e =
    let small : 31 - i ≤ 31 = omega arith in
    omega (arith, pow_mono small)

nonzero-taken : (r : WireNumber) → nonzero (taken r) ≡ taken r
unfolding taken nonzero
nonzero-taken r =
    nonzero_both (tab 32 (λ i. less (2 ^ (31 - i)) · at r i)) (less (2 ^ 33) · at r 32 ∷ less (2 ^ 32) · at r 33 ∷ [])
    (nonzero-tab 32 _ less_pos)
    refl

nonzero-words : (xs : List WordPosition) → nonzero (weighted_all xs) ≡ weighted_all xs
unfolding nonzero weighted weighted_all
nonzero-words [] = refl
nonzero-words (x ∷ xs) = nonzero_both (weighted x) (weighted_all xs) (nonzero-tab 32 _ weight_pos) (nonzero-words xs)

nonzero_addends : (s : Addends) → nonzero (addend_terms s) ≡ addend_terms s
nonzero_addends s = rw (addends_weighted s) (nonzero-words (addend_words s))

-- what stands before the result that is taken off
abbrev pub summands : Addends → ℕ → List Term
summands s k = addend_terms s ++ nonzero (k · one ∷ [])

nonzero-sum : (s : Addends) (k : ℕ) (r : WireNumber) → nonzero (addend_terms s ++ (k · one ∷ []) ++ taken r) ≡ summands s k ++ taken r
nonzero-sum s k r =
    nonzero_append (addend_terms s ++ (k · one ∷ [])) (taken r)
    ∙ ap₂ (λ xs ys. xs ++ ys)
    (nonzero_append (addend_terms s) (k · one ∷ []) ∙ ap (λ xs. xs ++ nonzero (k · one ∷ [])) (nonzero_addends s))
    (nonzero-taken r)

unsorted-sum : (s : Addends) (k : ℕ) (r : WireNumber) → terms (unsorted (Sum s k r)) ≡ summands s k ++ taken r ++ (1 · one ∷ [])
unfolding letters nonzero terms unsorted
unsorted-sum s k r =
    append-nil (nonzero (addend_terms s ++ (k · one ∷ []) ++ taken r) ++ (1 · one ∷ []))
    ∙ ap (λ xs. xs ++ (1 · one ∷ [])) (nonzero-sum s k r)

module _ (s : Addends) (k : ℕ) (r : WireNumber) where
  part_length : length (summands s k ++ taken r) ≡ length (summands s k) + 34
  part_length = length-append (summands s k) (taken r) ∙ ap (λ i. length (summands s k) + i) (taken-length r)

  pub sum-length : term_count (Sum s k r) ≡ length (summands s k) + 35
  sum-length = omega (arith, ap length (unsorted-sum s k r), length-append (summands s k ++ taken r) (1 · one ∷ []), part_length)

  pub summands_few : (n : ℕ) → n ≡ length (summands s k) → term_count (Sum s k r) ≤ most_terms → n ≤ 128
  summands_few n long few = omega (arith, sum-length)

  pub sum_count : term_count (Sum s k r) ≤ 32 * length (addend_words s) + length (nonzero (k · one ∷ [])) + 35
  sum_count = omega (arith, sum-length, length-append (addend_terms s) (nonzero (k · one ∷ [])), addends_length s)
