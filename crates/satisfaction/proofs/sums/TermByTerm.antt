-- The sums of a row's parts, term by term. What a term adds goes to the part that it belongs to; a sum that is kept as a residue comes to
-- the same modulo p. After the last term the three sums tell whether the row is satisfied.
use mathlib.Core.List.{List, ◌++◌}
use mathlib.Core.Logic.{by_cases}
use mathlib.Core.Path.{◌≡◌, ◌∙◌, ap, ap₂, refl, sym}
use Prim.Native.Nat.{ℕ, ◌+◌, ◌-◌, ◌*◌, ◌%◌, ◌≤◌, ◌<◌}
use native.Mathlib.Decide.{dec_lt}
use native.Mathlib.Nat.{mod-lt}
use native.Mathlib.Numerals.{add-one}
use native.Mathlib.Omega.{arith}
use borrow.Author.Tests.{le-ltb, lt-ltb}
use lib.Dec.{eqb, lit<}
use lib.ListN.{get_or-append, get_or, length, length-append, take}
use lib.Seq.{take_all, take-suc}
use Rattle.field.proofs.Congruence.{mul-mod}
use Rattle.field.specs.Field.{p}
use Rattle.forms.proofs.exact.Values.{value-append}
use Rattle.forms.proofs.terms.Indexed.{none, past}
use Rattle.forms.specs.Former.{former_holds, former_value}
use Rattle.forms.specs.Rows.{Row, terms}
use Rattle.forms.specs.declared.form.Term.{Term}
use Rattle.forms.specs.declared.terms.Counts.{Counts}
use Rattle.satisfaction.specs.Sums.{added}
use Rattle.satisfaction.specs.declared.sums.Sums.{Sums}

module _ (e : ℕ → ℕ) where
  -- what a term adds
  abbrev pub worth : Term → ℕ
  worth u = (u.residue * e u.wire.0) % p

  -- what the first n terms of a part come to
  abbrev up_to : List Term → ℕ → ℕ
  up_to us n = former_value e (take n us) % p

  one_more : (us : List Term) (n : ℕ) → n < length us → (up_to us n + worth (get_or us n none)) % p ≡ up_to us (n + 1)
  unfolding former_value
  one_more us n l =
      let u = get_or us n none in
      let more : former_value e (take (n + 1) us) ≡ former_value e (take n us) + u.residue * e u.wire.0 =
      ap (λ m. former_value e (take m us)) (add-one n) ∙ ap (former_value e) (take-suc us n none l) ∙ value-append e (take n us) _ ∙ omega arith in
      omega (arith, more)

  all : (us : List Term) (n : ℕ) → length us ≤ n → up_to us n ≡ former_value e us % p
  all us n l = ap (λ vs. former_value e vs % p) (take_all n us l)

  module _ (row : Row) where
    -- what the first t terms of the row come to
    unfoldable pub sums_to : ℕ → Sums
    sums_to t =
        record {
          a = up_to row.A t;
          b = up_to row.B (t - length row.A);
          c = up_to row.C (t - length row.A - length row.B);
        }

    sums_at : (t i j : ℕ) → i ≡ t - length row.A → j ≡ t - length row.A - length row.B
        → {x y z : ℕ} → x ≡ up_to row.A t → y ≡ up_to row.B i → z ≡ up_to row.C j → record { a = x; b = y; c = z } ≡ sums_to t
    unfolding sums_to
    sums_at t i j ei ej ex ey ez = rw (ex, ey, ez, ei, ej) refl

    pub sums_none : record { a = 0; b = 0; c = 0 } ≡ sums_to 0
    unfolding former_value
    sums_none = sums_at 0 0 0 (omega arith) (omega arith) refl refl refl

    pub sums_next : (n : Counts) → n.a ≡ length row.A → n.b ≡ length row.B → (t : ℕ) → t < length (terms row)
        → added (sums_to t) n t (worth (get_or (terms row) t none)) ≡ sums_to (t + 1)
    unfolding sums_to terms
    sums_next n ea eb t l =
        let A = row.A in
        let B = row.B in
        let C = row.C in
        let i = t - length A in
        let j = i - length B in
        let stays : (us : List Term) (n : ℕ) → length us ≤ n → up_to us n ≡ up_to us (n + 1) = λ us n h. all us n h ∙ sym (all us (n + 1) (omega arith)) in
        by_cases (dec_lt t (length A))
        (λ in-a.
        rw (ea, lt-ltb t (length A) in-a)
        (sums_at (t + 1) i j (omega arith) (omega arith)
        (ap (λ u. (up_to A t + worth u) % p) (get_or-append (A ++ B) C none t (omega (arith, length-append A B)) ∙ get_or-append A B none t in-a)
        ∙ one_more A t in-a) refl refl))
        (λ past-a.
        by_cases (dec_lt i (length B))
        (λ in_b.
        rw (ea, eb, le-ltb t (length A) (omega arith), lt-ltb i (length B) in_b)
        (sums_at (t + 1) (i + 1) j (omega arith) (omega arith) (stays A t (omega arith))
        (ap (λ u. (up_to B i + worth u) % p) (get_or-append (A ++ B) C none t (omega (arith, length-append A B)) ∙ past A B t none (omega arith))
        ∙ one_more B i in_b) refl))
        (λ past-b.
        let place : t - length (A ++ B) ≡ j = omega (arith, length-append A B) in
        rw (ea, eb, le-ltb t (length A) (omega arith), le-ltb i (length B) (omega arith))
        (sums_at (t + 1) (i + 1) (j + 1) (omega arith) (omega arith) (stays A t (omega arith)) (stays B i (omega arith))
        (ap (λ u. (up_to C j + worth u) % p) (past (A ++ B) C t none (omega (arith, length-append A B)) ∙ ap (λ k. get_or C k none) place)
        ∙ one_more C j (omega (arith, length-append (A ++ B) C, length-append A B))))))

    pub residues : (t : ℕ) {s : Sums} → s ≡ sums_to t → (s.a < p) × (s.b < p) × (s.c < p)
    unfolding sums_to
    residues t e = rw e (mod-lt _ (lit< tt), mod-lt _ (lit< tt), mod-lt _ (lit< tt))

    pub judged : (t : ℕ) → length (terms row) ≤ t → eqb (((sums_to t).a * (sums_to t).b) % p) (sums_to t).c ≡ former_holds e row
    unfolding former_holds sums_to terms
    judged t l =
        let A = row.A in
        let B = row.B in
        let C = row.C in
        let long = length-append (A ++ B) C in
        let front = length-append A B in
        ap₂ eqb
        (ap₂ (λ x y. (x * y) % p) (all A t (omega (arith, long, front))) (all B (t - length A) (omega (arith, long, front)))
        ∙ sym (mul-mod (former_value e A) (former_value e B) p))
        (all C (t - length A - length B) (omega (arith, long, front)))
