-- The rounds of a block. Given that A to H, Wj and W'j are carried, the rows of round j make its words and sums one after the
-- other, each from what is carried by then; and A to H are then carried where they stand after the round. So by induction
-- each round's rows hold exactly where its wires agree, given that those of the earlier rounds agree; and so do the rows of the
-- first c rounds, all of them early ones or the 16 early ones and some of the later.
use mathlib.Core.Bool.{cond}
use mathlib.Core.List.{List}
use mathlib.Core.Logic.Iff
use mathlib.Core.Logic.{◌↔◌, by_cases}
use mathlib.Core.Path.{◌≡◌, ap, refl, subst, subst₂}
use Prim.Native.Nat.{ℕ, zero, suc, ◌+◌, ◌-◌, ◌*◌, ◌<◌, ◌≤◌}
use native.Mathlib.Decide.{dec_lt}
use native.Mathlib.Omega.{arith}
use borrow.Author.Tests.{le-ltb, lt-ltb}
use lib.Dec.{lit<, lit≤, ltb}
use lib.ListN.{get_or}
use Rattle.block.proofs.exact.FirstRows.{holds-first}
use Rattle.block.proofs.exact.States.{CarriesState}
use Rattle.block.specs.BlockWires.{round_wires}
use Rattle.block.specs.StepForms.{ff_form, gg_form, p0_form, ss1, ss2_form, tt1_form, tt2_form, u_form, word}
use Rattle.block.specs.Steps.{lines, rounds_rows, rows_before_round}
use Rattle.block.specs.Wires.{StatePosition, ff_first, gg_first, moved, p0_first, ss2_first, stands, tt1_first, tt2_first, u_first, w_prime_first, round_width, rounds_at}
use Rattle.block.specs.declared.step.Step.TheVariants.{Gg}
use Rattle.encoding.proofs.Regroup.{beside-grid}
use Rattle.encoding.proofs.Sequence.{each_add}
use Rattle.encoding.specs.Sequence.{beside, grid}
use Rattle.forms.proofs.exact.Carries.{Carries, Makes, carries-truncated, carries-rotated, carries-word, makes_ff, makes_gg, makes_xor_three, makes_xor_two, sum-four-run, sum_then, sum-two-run, word_then}
use Rattle.forms.proofs.exact.Parts.{agree_first, agree_past, agree_row, each_at, then_at}
use Rattle.forms.proofs.exact.Runs.{Agree, Holds, Judged, each}
use Rattle.forms.specs.Positions.{standing}
use Rattle.forms.specs.WordWires.{sum_wires}
use Rattle.forms.specs.declared.form.Form.{Form}
use Rattle.sm3.proofs.Bounds.{rotated_constant_lt}
use Rattle.sm3.specs.Sm3.{FF, GG, P0, SS1, SS2, truncated, w_prime, round_of, rounds, sum_tt1, sum_tt2, sum_u, rotated_constant}
use Rattle.sm3.specs.declared.state.State.{State}

-- the rows of round j, where A to H stand at s
unfoldable pub round_forms : ℕ → StatePosition → ℕ → ℕ → Form
round_forms F s j =
    beside 35 (u_form F s j)
    (beside 32 (ss2_form F s j)
    (beside 64 (ff_form F s j)
    (beside (lines Gg j) (gg_form F s j)
    (beside 35 (tt1_form F s j)
    (beside 35 (tt2_form F s j)
    (p0_form F j))))))

-- the rows of the rounds of a block that begins with the words at v
unfoldable pub rounds_forms : ℕ → StatePosition → ℕ → Form
rounds_forms F v =
    beside 5264 (grid 329 (λ j. round_forms F (stands F v j) j))
    (grid 297 (λ j. round_forms F (stands F v (16 + j)) (16 + j)))

-- before a round stand no more rows than all rounds have
pub rows_before_round_le : (c : ℕ) → c ≤ 64 → rows_before_round c ≤ rounds_rows
rows_before_round_le c m =
    by_cases (dec_lt c 16) (λ few. rw (lt-ltb c 16 few) (omega arith)) (λ many. rw (le-ltb c 16 (omega arith)) (omega arith))

module _ (a : ℕ → ℕ) (J : Judged a) (F : ℕ) (w : List ℕ) (j : ℕ) (cw : Carries a (word F j) (get_or w j 0))
    (cp : Carries a (standing (w_prime_first F j)) (w_prime w j)) (s : StatePosition) (S : State) (c : CarriesState a s S) where
  u-run : Holds a 35 (u_form F s j) ↔ Agree a (u_first F j) 34 (sum_wires (sum_u j S))
  unfolding u_form sum_u
  u-run = sum-two-run a J (carries-rotated a J 12 (lit< tt) c.a) c.e (rotated_constant j) (u_first F j) (rotated_constant_lt j)

  carries-ss1 : Carries a (standing (u_first F j)) (truncated (sum_u j S)) → Carries a (ss1 F j) (SS1 j S)
  unfolding SS1
  carries-ss1 cu = carries-rotated a J 7 (lit< tt) cu

  makes_ss2 : Carries a (ss1 F j) (SS1 j S) → Makes a 32 (ss2_form F s j) (ss2_first F j) (SS2 j S)
  unfolding ss2_form SS2
  makes_ss2 c1 = makes_xor_two a J c1 (carries-rotated a J 12 (lit< tt) c.a) (ss2_first F j)

  makes_FF : Makes a 64 (ff_form F s j) (ff_first F j) (FF j S.a S.b S.c)
  unfolding ff_form FF
  makes_FF = makes_ff a J c.a c.b c.c (ltb j 16) (ff_first F j)

  makes_GG : Makes a (lines Gg j) (gg_form F s j) (gg_first F j) (GG j S.e S.f S.g)
  unfolding gg_form GG
  makes_GG = makes_gg a J c.e c.f c.g (ltb j 16) (gg_first F j)

  tt1_run : Carries a (standing (ss2_first F j)) (SS2 j S) → Carries a (standing (ff_first F j)) (FF j S.a S.b S.c)
      → (Holds a 35 (tt1_form F s j) ↔ Agree a (tt1_first F j) 34 (sum_wires (sum_tt1 j (w_prime w j) S)))
  unfolding tt1_form sum_tt1
  tt1_run c2 cf = sum-four-run a J cf c.d c2 cp (tt1_first F j)

  tt2_run : Carries a (ss1 F j) (SS1 j S) → Carries a (standing (gg_first F j)) (GG j S.e S.f S.g)
      → (Holds a 35 (tt2_form F s j) ↔ Agree a (tt2_first F j) 34 (sum_wires (sum_tt2 j (get_or w j 0) S)))
  unfolding tt2_form sum_tt2
  tt2_run c1 cg = sum-four-run a J cg c.h c1 cw (tt2_first F j)

  makes_p0 : {T : ℕ} → Carries a (standing (tt2_first F j)) T → Makes a 64 (p0_form F j) (p0_first F j) (P0 T)
  unfolding p0_form P0
  makes_p0 ct = makes_xor_three a J ct (carries-rotated a J 9 (lit< tt) ct) (carries-rotated a J 17 (lit< tt) ct) (p0_first F j)

  -- with g rows for GG
  round-run : (g : ℕ) → lines Gg j ≡ g
      → (Holds a (35 + (32 + (64 + (g + 134)))) (round_forms F s j) ↔ Agree a (u_first F j) round_width (round_wires w j S))
  unfolding round_forms round_wires
  round-run g e =
      subst (λ g. Holds a (35 + (32 + (64 + (g + 134)))) (round_forms F s j) ↔ Agree a (u_first F j) round_width (round_wires w j S)) e
      (sum_then a J (u_first F j) (ss2_first F j) 35 (32 + (64 + (lines Gg j + 134))) 196 _ _ _ _ refl u-run
      (λ cu.
      let c1 = carries-ss1 cu in
      word_then a J (ff_first F j) (64 + (lines Gg j + 134)) 164 _ _ (omega arith) (makes_ss2 c1)
      (λ c2.
      word_then a J (gg_first F j) (lines Gg j + 134) 132 _ _ (omega arith) makes_FF
      (λ cf.
      word_then a J (tt1_first F j) 134 100 _ _ (omega arith) makes_GG
      (λ cg.
      sum_then a J (tt1_first F j) (tt2_first F j) 35 99 66 _ _ _ _ (omega arith) (tt1_run c2 cf)
      (λ ct.
      sum_then a J (tt2_first F j) (p0_first F j) 35 64 32 _ _ _ _ (omega arith) (tt2_run c1 cg) (λ ct. (makes_p0 ct).run)))))))

  -- where A to H stand after the round
  moves : Agree a (u_first F j) round_width (round_wires w j S) → CarriesState a (moved F j s) (round_of j (get_or w j 0) (w_prime w j) S)
  unfolding round_wires moved round_of
  moves agree =
      let after-u = agree_past a (u_first F j) (ss2_first F j) 34 196 _ _ refl agree in
      let after-ss2 = agree_past a (ss2_first F j) (ff_first F j) 32 164 _ _ (omega arith) after-u in
      let after-ff = agree_past a (ff_first F j) (gg_first F j) 32 132 _ _ (omega arith) after-ss2 in
      let after-gg = agree_past a (gg_first F j) (tt1_first F j) 32 100 _ _ (omega arith) after-ff in
      let after-tt1 = agree_past a (tt1_first F j) (tt2_first F j) 34 66 _ _ (omega arith) after-gg in
      let after-tt2 = agree_past a (tt2_first F j) (p0_first F j) 34 32 _ _ (omega arith) after-tt1 in
      let ct = carries-truncated a J (tt2_first F j) _ (agree_first a (tt2_first F j) 34 32 _ _ after-tt1) in
      record {
        a = carries-truncated a J (tt1_first F j) _ (agree_first a (tt1_first F j) 34 66 _ _ after-gg);
        b = c.a;
        c = carries-rotated a J 9 (lit< tt) c.b;
        d = c.c;
        e = carries-word a J (makes_p0 ct) after-tt2;
        f = c.e;
        g = carries-rotated a J 19 (lit< tt) c.f;
        h = c.g;
      }

module _ (a : ℕ → ℕ) (J : Judged a) (F : ℕ) (w : List ℕ) (words : (j : ℕ) → j < 68 → Carries a (word F j) (get_or w j 0))
    (w_primes : (j : ℕ) → j < 64 → Carries a (standing (w_prime_first F j)) (w_prime w j))
    (v : StatePosition) (B : State) (begun : CarriesState a v B) where
  -- A to H are carried before round j, where the wires of the earlier rounds agree
  rounds_carried : (j : ℕ) → j ≤ 64 → ((i : ℕ) → i < j → Agree a (u_first F i) round_width (round_wires w i (rounds w B i)))
      → CarriesState a (stands F v j) (rounds w B j)
  unfolding stands rounds
  rounds_carried zero l e = begun
  rounds_carried (suc j) l e =
      moves a J F w j (words j (omega arith)) (w_primes j l) (stands F v j) (rounds w B j)
      (rounds_carried j (omega arith) (λ i k. e i (omega arith))) (e j (omega arith))

  -- round j after the earlier ones
  round-given : (j : ℕ) → j < 64 → ((i : ℕ) → i < j → Agree a (u_first F i) round_width (round_wires w i (rounds w B i)))
      → (g : ℕ) → lines Gg j ≡ g
      → (Holds a (35 + (32 + (64 + (g + 134)))) (round_forms F (stands F v j) j)
      ↔ Agree a (u_first F j) round_width (round_wires w j (rounds w B j)))
  round-given j l earlier =
      round-run a J F w j (words j (omega arith)) (w_primes j l) (stands F v j) (rounds w B j) (rounds_carried j (omega arith) earlier)

  -- the first c of the rounds 0 to 15
  early_run : (c : ℕ) → c ≤ 16
      → (Holds a (c * 329) (grid 329 (λ j. round_forms F (stands F v j) j))
      ↔ Agree a (F + rounds_at) (c * round_width) (grid round_width (λ j. round_wires w j (rounds w B j))))
  early_run c m =
      each a (F + rounds_at) c 329 round_width _ _
      (λ j l earlier. round-given j (omega arith) earlier 64 (ap (λ t. cond t 64 32) (lt-ltb j 16 (omega arith))))

  -- .. and the first c after those
  late_run : Agree a (F + rounds_at) (16 * round_width) (grid round_width (λ j. round_wires w j (rounds w B j))) → (c : ℕ) → c ≤ 48
      → (Holds a (c * 297) (grid 297 (λ j. round_forms F (stands F v (16 + j)) (16 + j)))
      ↔ Agree a (u_first F 16) (c * round_width) (grid round_width (λ j. round_wires w (16 + j) (rounds w B (16 + j)))))
  late_run early c m =
      each_at a (u_first F 16) c 297 round_width (λ j. u_first F (16 + j)) _ _ (λ j. omega arith)
      (λ j l earlier.
      let all = (each_add (λ i. Agree a (u_first F i) round_width (round_wires w i (rounds w B i))) 16 j).1
      (agree_row a (F + rounds_at) 16 round_width _ early, earlier) in
      round-given (16 + j) (omega arith) all 32 (ap (λ t. cond t 64 32) (le-ltb (16 + j) 16 (omega arith))))

  -- the first c rounds
  pub rounds-run : (c : ℕ) → c ≤ 64
      → (Holds a (rows_before_round c) (rounds_forms F v)
      ↔ Agree a (F + rounds_at) (c * round_width) (grid round_width (λ j. round_wires w j (rounds w B j))))
  unfolding rounds_forms
  rounds-run c m =
      by_cases (dec_lt c 16)
      (λ few. rw (lt-ltb c 16 few) (Iff.trans (holds-first a (c * 329) 5264 _ _ (omega arith)) (early_run c (omega arith))))
      (λ many.
      let width : 16 * round_width + (c - 16) * round_width ≡ c * round_width = omega arith in
      rw (le-ltb c 16 (omega arith))
      (subst₂ (λ n s. Holds a (5264 + (c - 16) * 297) (rounds_forms F v) ↔ Agree a (F + rounds_at) n s) width
      (beside-grid 16 round_width (λ j. round_wires w j (rounds w B j)) (lit< tt))
      (then_at a (F + rounds_at) (u_first F 16) 5264 ((c - 16) * 297) (16 * round_width) ((c - 16) * round_width) _ _ _ _ (omega arith)
      (early_run 16 (lit≤ tt)) (λ early. late_run early (c - 16) (omega arith)))))

  -- A to H are carried after the last round
  pub rounds_end : Agree a (F + rounds_at) (64 * round_width) (grid round_width (λ j. round_wires w j (rounds w B j)))
      → CarriesState a (stands F v 64) (rounds w B 64)
  rounds_end e = rounds_carried 64 (lit≤ tt) (agree_row a (F + rounds_at) 64 round_width _ e)
