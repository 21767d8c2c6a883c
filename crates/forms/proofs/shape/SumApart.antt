-- The terms of a sum's row. A word's 32 terms lie on the 32 wires from its first on, the terms taken off on the 34 from the
-- result's first on, and the constant's on wire 0. So where these runs of wires do not overlap, all wires differ.
use Rattle.std.proofs.Common.{ℕ, ◌+◌, ◌-◌, ◌*◌, ◌^◌, ◌<◌, ◌≤◌, List, [], ◌∷◌, ◌++◌, length, append_assoc, arith, pow_pos, pow_mono}
use Rattle.encoding.specs.Sequence.{tab}
use Rattle.field.specs.Field.{p}
use Rattle.forms.proofs.shape.All.{all_append, all_tab, pairwise_append, pairwise_tab}
use Rattle.forms.proofs.shape.Clear.{Clear, ClearWords, Under}
use Rattle.forms.proofs.shape.Rises.{Part}
use Rattle.forms.proofs.shape.TermRuns.{Off, On, Run, constant-run, run-before, run_off, run_part}
use Rattle.forms.proofs.terms.SumTerms.{addend_words, addends_weighted, sum_count, weighted_all}
use Rattle.forms.specs.Positions.{one}
use Rattle.forms.specs.Rows.{◌·◌, addend_terms, nonzero, taken, weighted}
use Rattle.forms.specs.Shape.{All, Pairwise, most_terms}
use Rattle.forms.specs.Terms.{term_count}
use Rattle.forms.specs.declared.form.Addends.{Addends}
use Rattle.forms.specs.declared.form.Form.TheVariants.{Sum}
use Rattle.forms.specs.declared.form.Term.{Term}
use Rattle.forms.specs.declared.position.WordPosition.{WordPosition}
use Rattle.refusal.specs.declared.numbers.WireNumber.{WireNumber}

word-run : (x : WordPosition) → Run x.first.0 32 (weighted x)
unfolding weighted
word-run x =
    record {
      on = all_tab (On x.first.0 32) 32 _ (λ i h. omega arith);
      distinct = pairwise_tab _ 32 _ (λ i j h k. omega arith);
      residues =
          all_tab (λ (t : Term). t.residue < p) 32 _
          (λ i h.
          let small : 31 - i ≤ 31 = omega arith in
          omega (arith, pow_mono small));
    }

taken-run : (r : WireNumber) → Run r.0 34 (taken r)
unfolding taken
taken-run r =
    record {
      on = all_append (On r.0 34) (tab 32 _) _ (all_tab (On r.0 34) 32 _ (λ i h. omega arith)) (omega arith);
      distinct =
          pairwise_append _ (tab 32 _) _ (pairwise_tab _ 32 _ (λ i j h k. omega arith)) (omega arith)
          (all_tab _ 32 _ (λ i h. omega arith));
      residues =
          all_append (λ (t : Term). t.residue < p) (tab 32 _) _
          (all_tab (λ (t : Term). t.residue < p) 32 _ (λ i h. omega (arith, pow_pos (31 - i))))
          (omega arith);
    }

-- the words xs, the constant c and the result at r do not overlap, and a constant is left out beside four words
pub record ApartSum (m : ℕ) (xs : List WordPosition) (c r : ℕ) : Type 0 where
  pub words : All (λ x. Under m x × Clear x.first.0 32 r 34) xs
  pub apart : Pairwise ClearWords xs
  pub result : (1 ≤ r) × (r + 34 ≤ m)
  pub constant : c < 2 ^ 32
  pub few : 32 * length xs + length (nonzero (c · one ∷ [])) ≤ 128

weighted_off : (b m : ℕ) (xs : List WordPosition) → All (λ x. Clear b m x.first.0 32) xs → All (Off b m) (weighted_all xs)
unfolding weighted_all
weighted_off b m [] h = tt
weighted_off b m (x ∷ xs) h =
    all_append (Off b m) (weighted x) (weighted_all xs) (run_off _ 32 (weighted x) (word-run x) b m h.0) (weighted_off b m xs h.1)

-- what follows the words, of a sum with the constant c whose result is at r
abbrev rest : ℕ → WireNumber → List Term
rest c r = c · one ∷ taken r

module _ (m c : ℕ) (r : WireNumber) where
  rest_part : c < 2 ^ 32 → 1 ≤ r.0 → r.0 + 34 ≤ m → Part m (rest c r)
  rest_part h k l =
      run-before 0 1 (c · one ∷ []) (constant-run c (omega arith)) m (taken r) (omega arith) (run_part _ 34 (taken r) (taken-run r) m l)
      (run_off _ 34 (taken r) (taken-run r) 0 1 (omega arith))

  words_part : (xs : List WordPosition) → Part m (rest c r)
      → All (λ x. Under m x × Clear x.first.0 32 r.0 34) xs
      → Pairwise ClearWords xs → Part m (weighted_all xs ++ rest c r)
  unfolding weighted_all
  words_part [] q h a = q
  words_part (x ∷ xs) q h a =
      let w = x.first.0 in
      rw (append_assoc (weighted x) (weighted_all xs) (rest c r))
      (run-before w 32 (weighted x) (word-run x) m (weighted_all xs ++ rest c r) h.0.0.1 (words_part xs q h.1 a.1)
      (all_append (Off w 32) (weighted_all xs) (rest c r) (weighted_off w 32 xs a.0)
      (omega arith, run_off _ 34 (taken r) (taken-run r) w 32 h.0.1)))

module _ (m : ℕ) (s : Addends) (c : ℕ) (r : WireNumber) (h : ApartSum m (addend_words s) c r.0) where
  pub sum_part : Part m (addend_terms s ++ (c · one ∷ []) ++ taken r)
  sum_part =
      rw (append_assoc (addend_terms s) (c · one ∷ []) (taken r), addends_weighted s)
      (words_part m c r (addend_words s) (rest_part m c r h.constant h.result.0 h.result.1) h.words h.apart)

  -- four words and no constant or two words and one, then 34 terms and the 1 of B
  pub sum_few : term_count (Sum s c r) ≤ most_terms
  sum_few = omega (arith, sum_count s c r, h.few)
