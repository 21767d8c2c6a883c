-- Which places of a line have which kind: the runs of places, by the tests that tell a place's kind.
use mathlib.Core.Bool.{cond}
use mathlib.Core.List.{List}
use mathlib.Core.Logic.{by_cases}
use mathlib.Core.Path.{◌≡◌, ◌∙◌, ap, subst, sym}
use Prim.Native.Nat.{ℕ, ◌+◌, ◌-◌, ◌<◌, ◌≤◌}
use native.Mathlib.Decide.{dec_lt}
use native.Mathlib.Omega.{arith}
use borrow.Author.Tests.{eq-eqb, ne_eqb}
use lib.ListN.{get_or}
use Rattle.std.proofs.lemmas.Bool.Decides.{nat_tests}
use Rattle.passage.proofs.Asked.{asked_as}
use Rattle.passage.specs.Format.{allowed_at, allows, fits, kind_at}
use Rattle.passage.specs.Runs.{Run, asked, plate_fits}
use Rattle.passage.specs.declared.format.Kind.TheVariants.{Digit, Class, PlateFirst, PlateNext, Hex, Comma}
use Rattle.passage.specs.declared.format.Kind.{Kind}

-- at places of a kind a line's byte is asked what the kind asks
pub run_allowed : {kind : Kind} {from to : ℕ} → Run kind from to → (s : List ℕ) (k : ℕ) → from ≤ k → k < to
    → allowed_at s k ≡ fits kind s k
run_allowed places s k low high = ap (λ kind. fits kind s k) (places k low high)

-- .. so a run of them is asked alike
pub run_asked : {kind : Kind} (from many : ℕ) → Run kind from (from + many) → (s : List ℕ)
    → asked (fits kind s) from many ≡ asked (allowed_at s) from many
run_asked {kind} from many places s =
    asked_as (fits kind s) (allowed_at s) from many (λ k low high. sym (run_allowed places s k low high))

-- one place
pub run_one : {kind : Kind} {k : ℕ} → kind_at k ≡ kind → Run kind k (k + 1)
run_one {kind} {k} e i low high = let same : k ≡ i = omega arith in subst (λ j. kind_at j ≡ kind) same e

-- the runs of a line, field by field
pub lane_run : Run Digit 0 3
unfolding kind_at
lane_run k low high = grind (arith, nat_tests)

pub time_run : Run Digit 4 14
unfolding kind_at
time_run k low high = grind (arith, nat_tests)

pub class_run : Run Class 15 16
unfolding kind_at
class_run k low high = grind (arith, nat_tests)

pub axles_run : Run Digit 17 19
unfolding kind_at
axles_run k low high = grind (arith, nat_tests)

pub first_run : Run PlateFirst 20 21
unfolding kind_at
first_run k low high = grind (arith, nat_tests)

pub next_run : Run PlateNext 21 30
unfolding kind_at
next_run k low high = grind (arith, nat_tests)

pub comma_run : Run Comma 30 31
unfolding kind_at
comma_run k low high = grind (arith, nat_tests)

pub blind_run : Run Hex 31 63
unfolding kind_at
blind_run k low high = grind (arith, nat_tests)

-- the plate's places
pub plate_allowed : (s : List ℕ) (k : ℕ) → 20 ≤ k → k < 30 → allowed_at s k ≡ plate_fits 20 s k
plate_allowed s k low high =
    by_cases (dec_lt 20 k)
    (λ past.
    run_allowed next_run s k past high
    ∙ sym (ap (λ t. cond t (fits PlateFirst s k) (fits PlateNext s k)) (ne_eqb k 20 (λ e. absurd (omega arith)))))
    (λ here.
    run_allowed first_run s k low (omega arith)
    ∙ sym (ap (λ t. cond t (fits PlateFirst s k) (fits PlateNext s k)) (eq-eqb k 20 (omega arith))))

-- .. asked by themselves
pub plate_kind : (p : List ℕ) (i : ℕ) → i < 10 → allows (kind_at (20 + i)) (get_or p (i - 1) 0) (get_or p i 0) ≡ plate_fits 0 p i
plate_kind p i l =
    by_cases (dec_lt 0 i)
    (λ past.
    ap (λ kind. fits kind p i) (next_run (20 + i) (omega arith) (omega arith))
    ∙ sym (ap (λ t. cond t (fits PlateFirst p i) (fits PlateNext p i)) (ne_eqb i 0 (λ e. absurd (omega arith)))))
    (λ here.
    ap (λ kind. fits kind p i) (first_run (20 + i) (omega arith) (omega arith))
    ∙ sym (ap (λ t. cond t (fits PlateFirst p i) (fits PlateNext p i)) (eq-eqb i 0 (omega arith))))
