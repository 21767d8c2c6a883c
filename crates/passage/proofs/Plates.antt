-- The plate. Where each place allows its byte after the one before it, letters and digits stand up to some place and `-` from there on: a
-- further letter could only come after another. And the other way round.
use mathlib.Core.Bool.{and-eq-true_iff, not, true, true≢false}
use mathlib.Core.List.{List}
use mathlib.Core.Logic.{by_cases}
use mathlib.Core.Path.{◌≡◌, ◌∙◌, ap, subst, sym}
use Prim.Native.Nat.{ℕ, zero, suc, ◌+◌, ◌<◌, ◌≤◌}
use native.Mathlib.Decide.{dec_lt, ℕ_discrete}
use native.Mathlib.Omega.{arith}
use borrow.Author.Tests.{eq-eqb, eqb-false, ne_eqb, not-true}
use lib.Dec.{eqb}
use lib.ListN.{get_or}
use Rattle.passage.specs.Exact.{Every, PlateForm}
use Rattle.passage.specs.Format.{follows, is_plate_byte}
use Rattle.text.specs.Decimal.{is_digit, is_digit_or}
use Rattle.text.specs.Text.{hyphen}

-- a `-` is no letter and no digit
hyphen_no_letter : (c : ℕ) → is_plate_byte c ≡ true → c ≡ hyphen → ⊥
unfolding is_plate_byte is_digit_or is_digit
hyphen_no_letter c letter e = true≢false (sym letter ∙ ap is_plate_byte e)

-- what may follow and is no `-`
letter_follows : (b c : ℕ) → follows b c ≡ true → (c ≡ hyphen → ⊥) → (b ≡ hyphen → ⊥) × (is_plate_byte c ≡ true)
unfolding follows
letter_follows b c e other =
    let both = (and-eq-true_iff (not (eqb b hyphen)) (is_plate_byte c)).0 (simp (ne_eqb c hyphen other) at e) in
    (eqb-false b hyphen (not-true (eqb b hyphen) both.0), both.1)

hyphen-follows : (b c : ℕ) → c ≡ hyphen → follows b c ≡ true
unfolding follows
hyphen-follows b c e = simp (eq-eqb c hyphen e)

after_letter : (b c : ℕ) → (b ≡ hyphen → ⊥) → is_plate_byte c ≡ true → follows b c ≡ true
unfolding follows
after_letter b c other letter =
    by_cases (ℕ_discrete c hyphen) (λ e. simp (eq-eqb c hyphen e)) (λ n. simp (ne_eqb c hyphen n, ne_eqb b hyphen other, letter))

module _ (s : List ℕ) (at : ℕ) where
  abbrev byte : ℕ → ℕ
  byte i = get_or s (at + i) 0

  -- the first j places
  record UpTo (j : ℕ) : Type 0 where
    m : ℕ
    some : 1 ≤ m
    most : m ≤ j
    letters : Every is_plate_byte s at m
    filled : (i : ℕ) → m ≤ i → i < j → byte i ≡ hyphen

  module _ (first : is_plate_byte (byte 0) ≡ true) (rule : (i : ℕ) → suc i < 10 → follows (byte i) (byte (suc i)) ≡ true) where
    grown : (j : ℕ) → suc j ≤ 10 → UpTo (suc j)
    grown zero l =
        record {
          m = 1;
          some = omega arith;
          most = omega arith;
          letters = λ i h. let here : 0 ≡ i = omega arith in subst (λ k. is_plate_byte (byte k) ≡ true) here first;
          filled = λ i low high. absurd (omega arith);
        }
    grown (suc j) l =
        let before = grown j (omega arith) in
        by_cases (ℕ_discrete (byte (suc j)) hyphen)
        (λ e.
        record {
          m = before.m;
          some = before.some;
          most = omega (arith, before.most);
          letters = before.letters;
          filled = λ i low high.
              by_cases (dec_lt i (suc j)) (before.filled i low)
              (λ last. let here : suc j ≡ i = omega arith in subst (λ k. byte k ≡ hyphen) here e);
        })
        (λ other.
        let asked = letter_follows (byte j) (byte (suc j)) (rule j (omega arith)) other in
        -- no `-` came before
        let whole : before.m ≡ suc j =
        by_cases (dec_lt before.m (suc j)) (λ less. absurd (asked.0 (before.filled j (omega arith) (omega arith))))
        (λ all. omega (arith, before.most)) in
        record {
          m = suc (suc j);
          some = omega arith;
          most = omega arith;
          letters = λ i h.
              by_cases (dec_lt i (suc j)) (λ less. before.letters i (omega arith))
              (λ last. let here : suc j ≡ i = omega arith in subst (λ k. is_plate_byte (byte k) ≡ true) here asked.1);
          filled = λ i low high. absurd (omega arith);
        })

    pub plate-form : PlateForm s at
    plate-form =
        let all = grown 9 (omega arith) in
        record { m = all.m; some = all.some; most = all.most; letters = all.letters; filled = all.filled }

  -- .. and back
  module _ (form : PlateForm s at) where
    pub form-first : is_plate_byte (byte 0) ≡ true
    form-first = form.letters 0 form.some

    pub form-follows : (i : ℕ) → suc i < 10 → follows (byte i) (byte (suc i)) ≡ true
    form-follows i l =
        by_cases (dec_lt (suc i) form.m)
        (λ letter.
        after_letter (byte i) (byte (suc i)) (hyphen_no_letter (byte i) (form.letters i (omega arith))) (form.letters (suc i) letter))
        (λ past. hyphen-follows (byte i) (byte (suc i)) (form.filled (suc i) (omega arith) l))
