-- A buffer is filled row by row. How many of all rows fit is how many are in it and how many of the others fit behind them; of
-- the others none fit once the buffer is full, or once there are none.
use mathlib.Core.Bool.{Bool, cond, false, true}
use mathlib.Core.List.{List}
use mathlib.Core.Path.{◌≡◌, ◌∙◌, ap, ap₂, refl, sym}
use Prim.Native.Nat.{ℕ, zero, suc, ◌+◌, ◌-◌, ◌<◌, ◌≤◌}
use native.Mathlib.Nat.{zero-add}
use native.Mathlib.Numerals.{add-one}
use native.Mathlib.Omega.{arith}
use borrow.Author.Tests.{eq-eqb, le-ltb, lt-ltb, ne_eqb}
use lib.Dec.{ltb}
use lib.ListN.{length}
use Rattle.std.specs.Prelude.{None, Option, Some}
use Rattle.text.proofs.Put.{length_put, put_front, put_none, put_then}
use Rattle.text.specs.Put.{Put}
use Rattle.listing.specs.Listing.{lines, lines_from}
use Rattle.listing.specs.Progress.{Handed, chunk_of, fitting, next_of, past, room}
use Rattle.listing.specs.Request.{rows}
use Rattle.listing.specs.declared.progress.Listing.{Listing}
use Rattle.listing.specs.declared.progress.Listing.TheVariants as listing
use Rattle.listing.specs.declared.progress.Progress.{Progress}
use Rattle.listing.specs.declared.progress.Progress.TheVariants.{Lines}
use Rattle.listing.specs.declared.request.Rows.{Rows}
use Rattle.listing.proofs.Lines.{lines_more, lines_none}

module _ (least : ℕ) (of : ℕ → List ℕ) where
  fitting-none : (k n : ℕ) → fitting least of k 0 n ≡ 0
  unfolding fitting
  fitting-none k n = refl

  fitting_full : (k m n : ℕ) → n < least → fitting least of k m n ≡ 0
  unfolding fitting
  fitting_full k zero n full = refl
  fitting_full k (suc m) n full = simp (lt-ltb n least full)

  pub fitting-more : (k m n : ℕ) → least ≤ n → fitting least of k (suc m) n ≡ suc (fitting least of (suc k) m (n - length (of k)))
  unfolding fitting
  fitting-more k m n space = simp (le-ltb n least space)

  pub fitting_le : (k m n : ℕ) → fitting least of k m n ≤ m
  unfolding fitting
  fitting_le k zero n = omega arith
  fitting_le k (suc m) n = by (ltb n least) (fitting_le (suc k) m (n - length (of k)))
    where
      by : (full : Bool) → fitting least of (suc k) m (n - length (of k)) ≤ m → cond full 0 (suc (fitting least of (suc k) m (n - length (of k)))) ≤ suc m
      by true h = omega arith
      by false h = omega arith

  -- of the m₀ rows from k₀ on those below k are in the buffer
  module _ (k₀ m₀ : ℕ) where
    pub record Filling (before after : List ℕ) (k at : ℕ) : Type 0 where
      pub put : Put before 0 (lines_from of k₀ (k - k₀)) after at
      pub fits : at ≤ length before
      pub from : k₀ ≤ k
      pub to : k ≤ k₀ + m₀
      pub count : fitting least of k₀ m₀ (length before) ≡ k - k₀ + fitting least of k (k₀ + m₀ - k) (length before - at)

    pub filling_none : (l : List ℕ) → Filling l l k₀ 0
    filling_none l =
        let none : k₀ - k₀ ≡ 0 = omega arith in
        let left : k₀ + m₀ - k₀ ≡ m₀ = omega arith in
        let all : length l - 0 ≡ length l = omega arith in
        record {
          put = rw (none, lines_none of k₀) (put_none l 0);
          fits = omega arith;
          from = omega arith;
          to = omega arith;
          count = rw (none, left, all) (sym (zero-add _));
        }

    pub filling_more :
        {l l' l'' : List ℕ} {k at at' : ℕ}
        → Filling l l' k at
        → k < k₀ + m₀
        → least ≤ length l - at
        → Put l' at (of k) l'' at'
        → at' ≤ length l
        → Filling l l'' (k + 1) at'
    filling_more {l} {l'} {l''} {k} {at} {at'} f more space p fits =
        let done : k + 1 - k₀ ≡ k - k₀ + 1 = omega (arith, f.from) in
        let here : k₀ + (k - k₀) ≡ k = omega (arith, f.from) in
        let one : k₀ + m₀ - k ≡ suc (k₀ + m₀ - (k + 1)) = omega arith in
        let gone : length l - at - length (of k) ≡ length l - at' = omega (arith, p.ends) in
        let step : fitting least of k (k₀ + m₀ - k) (length l - at) ≡ suc (fitting least of (k + 1) (k₀ + m₀ - (k + 1)) (length l - at')) =
        ap (λ (m : ℕ). fitting least of k m (length l - at)) one
        ∙ fitting-more k (k₀ + m₀ - (k + 1)) (length l - at) space
        ∙ ap₂ (λ (i n : ℕ). suc (fitting least of i (k₀ + m₀ - (k + 1)) n)) (sym (add-one k)) gone in
        record {
          put = rw (done, lines_more of k₀ (k - k₀), here) (put_then f.put p);
          fits = fits;
          from = omega (arith, f.from);
          to = omega arith;
          count = omega (arith, f.count, step, done);
        }

-- a chunk that is written at the front
pub handed :
    {l : Listing} (p : Progress) {before after : List ℕ} {at : ℕ} {next : Option Progress}
    → Put before 0 (chunk_of l (length before) p) after at
    → at ≤ length before
    → next ≡ next_of l (length before) p
    → Handed l p before after (record { bytes = at; next = next })
handed p put fits next =
    record { front = put_front put fits; fits = omega (arith, fits, length_put put); next = next }

-- the first line and the refusal have room, and a large buffer has room for a row
pub room_bounds : (l : Listing) → (106 ≤ room l) × (room l ≤ 10758)
room_bounds listing.Rows = omega arith
room_bounds listing.Steps = omega arith

module _ (l : Listing) (q : Rows) where
  abbrev pub Filled : List ℕ → List ℕ → ℕ → ℕ → Type 0
  Filled = Filling (room l) (lines l q.circuit) q.first.0 q.many

  past_all : past q q.many ≡ None
  past_all = simp (eq-eqb q.many q.many refl)

  past_some : (k : ℕ) → q.first.0 ≤ k → k < q.first.0 + q.many → past q (k - q.first.0) ≡ Some (Lines (rows q.circuit k (q.first.0 + q.many - k)))
  past_some k from more =
      let here : q.first.0 + (k - q.first.0) ≡ k = omega arith in
      let rest : q.many - (k - q.first.0) ≡ q.first.0 + q.many - k = omega arith in
      let fewer : k - q.first.0 ≡ q.many → ⊥ = λ e. omega (arith, e) in
      simp (ne_eqb (k - q.first.0) q.many fewer) (ap₂ (λ (i m : ℕ). Some (Lines (rows q.circuit i m))) here rest)

  handed_rows :
      {before after : List ℕ} {k at : ℕ} {next : Option Progress}
      → Filled before after k at
      → fitting (room l) (lines l q.circuit) k (q.first.0 + q.many - k) (length before - at) ≡ 0
      → next ≡ past q (k - q.first.0)
      → Handed l (Lines q) before after (record { bytes = at; next = next })
  handed_rows {before} {after} {k} {at} f none behind =
      let all : fitting (room l) (lines l q.circuit) q.first.0 q.many (length before) ≡ k - q.first.0 = omega (arith, f.count, none) in
      handed (Lines q) (rw all f.put) f.fits (rw all behind)

  -- the buffer is full
  pub handed_full :
      {before after : List ℕ} {k at : ℕ}
      → Filled before after k at
      → k < q.first.0 + q.many
      → length before - at < room l
      → Handed l (Lines q) before after (record { bytes = at; next = Some (Lines (rows q.circuit k (q.first.0 + q.many - k))) })
  handed_full {before} {after} {k} {at} f more full =
      handed_rows f (fitting_full (room l) (lines l q.circuit) k _ (length before - at) full)
      (sym (past_some k f.from more))

  -- no row is left
  pub handed_all :
      {before after : List ℕ} {k at : ℕ}
      → Filled before after k at
      → q.first.0 + q.many ≤ k
      → Handed l (Lines q) before after (record { bytes = at; next = None })
  handed_all {before} {after} {k} {at} f end =
      let none : q.first.0 + q.many - k ≡ 0 = omega arith in
      let whole : k - q.first.0 ≡ q.many = omega (arith, f.from, f.to) in
      handed_rows f
      (ap (λ (m : ℕ). fitting (room l) (lines l q.circuit) k m (length before - at)) none ∙ fitting-none (room l) (lines l q.circuit) k _)
      (sym (ap (past q) whole ∙ past_all))
