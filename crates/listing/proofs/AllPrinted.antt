-- What is still to be printed is the next chunk and what is still to be printed behind it. Each chunk but the last leaves less:
-- the first line or the refusal goes, or at least one row, because the buffer has room for one.
use mathlib.Core.Bool.{Bool, cond, false, true}
use mathlib.Core.List.{List, [], ◌++◌, append-nil}
use mathlib.Core.Path.{◌≡◌, ◌∙◌, ap, refl, subst, sym}
use Prim.Native.Nat.{ℕ, zero, suc, ◌+◌, ◌-◌, ◌<◌, ◌≤◌}
use native.Mathlib.Decide.{dec_lt, ℕ_discrete}
use native.Mathlib.Nat.{not-suc-le-zero}
use native.Mathlib.Omega.{arith}
use borrow.Author.Tests.{eq-eqb, ne_eqb}
use lib.Dec.{eqb}
use lib.ListN.{length, take}
use lib.Seq.{length-take-le, take_all}
use Rattle.std.specs.Prelude.{Err, None, Ok, Option, Some}
use Rattle.listing.specs.Listing.{lines, lines_from, printed, prints}
use Rattle.listing.specs.Progress.{IfPossible, Possible, PrintsAll, Run, chunk, chunk_of, ended, next_of, past, room, rows_fitting}
use Rattle.listing.specs.Request.{Request, request_of, rows}
use Rattle.listing.specs.declared.progress.Listing.{Listing}
use Rattle.listing.specs.declared.progress.Progress.{Progress}
use Rattle.listing.specs.declared.progress.Progress.TheVariants.{Begun, Lines}
use Rattle.listing.specs.declared.request.Front.{Front}
use Rattle.listing.specs.declared.request.Rows.{Rows}
use Rattle.listing.proofs.Chunks.{fitting_le, fitting-more}
use Rattle.listing.proofs.Lines.{lines_split}
use Rattle.listing.proofs.Requests.{long_bad}

-- what is still to be printed, and a bound on how many chunks that takes
abbrev rest : Listing → Option Progress → List ℕ
rest l (Some (Begun q)) = printed l q
rest l (Some (Lines q)) = lines_from (lines l q.circuit) q.first.0 q.many
rest l None = []

abbrev pub left : Option Progress → ℕ
left (Some (Begun (Ok q))) = q.many + 2
left (Some (Begun (Err r))) = 1
left (Some (Lines q)) = q.many + 1
left None = 0

module _ (l : Listing) (n : ℕ) where
  -- behind j of some rows
  module _ (q : Rows) (j : ℕ) (some : j ≤ q.many) where
    rest-past : lines_from (lines l q.circuit) q.first.0 q.many ≡ lines_from (lines l q.circuit) q.first.0 j ++ rest l (past q j)
    rest-past = by (ℕ_discrete j q.many)
      where
        by : Dec (j ≡ q.many) → lines_from (lines l q.circuit) q.first.0 q.many ≡ lines_from (lines l q.circuit) q.first.0 j ++ rest l (past q j)
        by (yes all) = simp (eq-eqb j q.many all, append-nil) (ap (lines_from (lines l q.circuit) q.first.0) (sym all))
        by (no fewer) =
            let whole : q.many ≡ j + (q.many - j) = omega arith in
            simp (ne_eqb j q.many fewer)
            (ap (lines_from (lines l q.circuit) q.first.0) whole ∙ lines_split (lines l q.circuit) q.first.0 j (q.many - j))

    left-past : (0 < q.many → 0 < j) → left (past q j) < q.many + 1
    left-past moved = by (ℕ_discrete j q.many)
      where
        by : Dec (j ≡ q.many) → left (past q j) < q.many + 1
        by (yes all) = simp (eq-eqb j q.many all) (omega arith)
        by (no fewer) =
            let one : 0 < j = moved (omega arith) in
            simp (ne_eqb j q.many fewer) (omega arith)

  splits : (p : Progress) → rest l (Some p) ≡ chunk_of l n p ++ rest l (next_of l n p)
  splits (Begun (Ok q)) = refl
  splits (Begun (Err r)) = sym (append-nil _)
  splits (Lines q) = rest-past q (rows_fitting l n q) (fitting_le (room l) (lines l q.circuit) q.first.0 q.many n)

  module _ (space : room l ≤ n) where
    one-fits : (q : Rows) → 0 < q.many → 0 < rows_fitting l n q
    one-fits q more =
        let one : q.many ≡ suc (q.many - 1) = omega arith in
        rw one (rw (fitting-more (room l) (lines l q.circuit) q.first.0 (q.many - 1) n space) (omega arith))

    pub falls : (p : Progress) → left (next_of l n p) < left (Some p)
    falls (Begun (Ok q)) = omega arith
    falls (Begun (Err r)) = omega arith
    falls (Lines q) =
        left-past q (rows_fitting l n q) (fitting_le (room l) (lines l q.circuit) q.first.0 q.many n) (one-fits q)

    runs : (bound : ℕ) (p : Option Progress) → left p < bound → Run l n p (rest l p)
    runs zero p below = absurd (not-suc-le-zero below)
    runs (suc bound) None below = ended
    runs (suc bound) (Some p) below =
        let less : left (next_of l n p) < left (Some p) = falls p in
        subst (Run l n (Some p)) (sym (splits p)) (chunk p (runs bound (next_of l n p) (omega arith)))

  -- rows that are left exist if all did
  pub possible_next : (p : Progress) → Possible p → IfPossible (next_of l n p)
  possible_next (Begun (Ok q)) exist = exist
  possible_next (Begun (Err r)) exist = tt
  possible_next (Lines q) exist =
      by (eqb (rows_fitting l n q) q.many) (fitting_le (room l) (lines l q.circuit) q.first.0 q.many n)
    where
      by : (all : Bool) → rows_fitting l n q ≤ q.many → IfPossible (cond all None (Some (Lines (rows q.circuit (q.first.0 + rows_fitting l n q) (q.many - rows_fitting l n q)))))
      by true some = tt
      by false some = (exist.0, omega (arith, exist.1))

-- a line of more than 40 bytes is refused, whatever stands behind them
enough : (t : Front) (m : ℕ) (s : List ℕ) → 41 ≤ m → request_of t (take m s) ≡ request_of t s
enough t m s most = by (dec_lt m (length s))
  where
    by : Dec (m < length s) → request_of t (take m s) ≡ request_of t s
    by (yes longer) =
        let read : length (take m s) ≡ m = length-take-le m s (omega arith) in
        long_bad t (take m s) (omega arith) ∙ sym (long_bad t s (omega arith))
    by (no all) = ap (request_of t) (take_all m s (omega arith))

pub prints_all : PrintsAll
unfolding prints
prints_all l t n m s space most =
    let p = Some (Begun (request_of t (take m s))) in
    subst (λ (r : Request). Run l n p (printed l r)) (enough t m s most) (runs l n space (left p + 1) p (omega arith))
