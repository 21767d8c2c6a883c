-- What the answer about a line's bytes says: 16 is asked of all 63 places, and behind that lane and axles decide.
use Rattle.refusal.specs.Refusals.{Outcome, done}
use Rattle.std.specs.Prelude.{Err, Ok}
use mathlib.Core.Bool.{false, and-eq-true_iff, not}
use mathlib.Core.List.{List}
use mathlib.Core.Logic.Iff
use mathlib.Core.Logic.{◌↔◌}
use mathlib.Core.Path.{◌≡◌, ◌∙◌, ap, refl, sym}
use Prim.Native.Nat.{ℕ, ◌+◌, ◌-◌, ◌<◌, ◌≤◌}
use native.Mathlib.Omega.{arith}
use borrow.Author.Tests.{eq-eqb, eqb-false, eqb-true, le-ltb, ltb-false, ne_eqb}
use lib.Dec.{eqb, ltb}
use lib.ListN.{get_or, length}
use Rattle.encoding.proofs.Lowest as failing
use Rattle.passage.proofs.Next.{neither}
use Rattle.passage.proofs.Numerals.{number_below}
use Rattle.passage.proofs.PlaceKinds.{axles_run, class_run, lane_run, run_allowed, time_run}
use Rattle.passage.proofs.Asked.{asked_all, asked_next}
use Rattle.passage.specs.Format.{allowed_at, allows, axles, kind_at, lane, line_length, number_in}
use Rattle.passage.specs.Front.{Fit}
use Rattle.passage.specs.Read.{bytes_answer, line_answer, low_answer, next, numbers_in, read_answer}
use Rattle.passage.specs.Runs.{Digits, Run, asked, wrong_at}
use Rattle.passage.specs.declared.format.Kind.TheVariants.{Comma, Digit}
use Rattle.passage.specs.declared.numbers.Numbers.{Numbers}
use Rattle.refusal.proofs.Tests.{equal_iff, past, refused_done}
use Rattle.refusal.specs.declared.outcome.Refusal.TheVariants.{LaneOrAxlesTooLow, LineNot63}
use Rattle.text.specs.Decimal.{is_digit}
use Rattle.text.specs.Text.{comma}

-- all bytes are what their places allow
abbrev pub AllAllowed : List ℕ → Type 0
AllAllowed s = failing.AllHold (allowed_at s) 0 line_length

module _ (s : List ℕ) where
  -- the answer past 16
  abbrev PastBytes : Outcome
  PastBytes = low_answer (number_in lane s) (number_in axles s)

  pub bytes_parts : bytes_answer s ≡ next (asked (allowed_at s) 0 line_length) Err PastBytes
  unfolding bytes_answer
  bytes_parts = asked_next (allowed_at s) PastBytes 0 line_length

  -- where all bytes are allowed
  module _ (all : AllAllowed s) where
    past_bytes : bytes_answer s ≡ PastBytes
    unfolding bytes_answer
    past_bytes = failing.lowest-none (allowed_at s) wrong_at PastBytes 0 line_length all

    pub bytes_right : (number_in lane s ≡ 0 → ⊥) → 2 ≤ number_in axles s → bytes_answer s ≡ done
    bytes_right some enough = past_bytes ∙ simp (ne_eqb (number_in lane s) 0 some, le-ltb (number_in axles s) 2 enough)

    -- the digits of the numbers
    run-digits : (at n : ℕ) → at + n ≤ line_length → Run Digit at (at + n) → Digits s at n
    unfolding allows
    run-digits at n l places i h = sym (run_allowed places s (at + i) (omega arith) (omega arith)) ∙ all (at + i) (omega arith) (omega arith)

    pub lane-digits : Digits s 0 3
    unfolding kind_at
    lane-digits = run-digits 0 3 (omega arith) lane_run

    pub time-digits : Digits s 4 10
    unfolding kind_at
    time-digits = run-digits 4 10 (omega arith) time_run

    pub class-digits : Digits s 15 1
    unfolding kind_at allows
    class-digits i l =
        let asked = sym (run_allowed class_run s (15 + i) (omega arith) (omega arith)) ∙ all (15 + i) (omega arith) (omega arith) in
        ((and-eq-true_iff (not (eqb (get_or s (15 + i) 0) 48)) (is_digit (get_or s (15 + i) 0))).0 asked).1

    pub axles-digits : Digits s 17 2
    unfolding kind_at
    axles-digits = run-digits 17 2 (omega arith) axles_run

    -- the commas
    pub comma-at : (k : ℕ) → k < line_length → kind_at k ≡ Comma → get_or s k 0 ≡ comma
    unfolding allows
    comma-at k l kind =
        eqb-true (get_or s k 0) comma (sym (ap (λ q. allows q (get_or s (k - 1) 0) (get_or s k 0)) kind) ∙ all k (omega arith) l)

  -- past 16 and 17
  pub right_allowed : bytes_answer s ≡ done → AllAllowed s
  unfolding bytes_answer
  right_allowed =
      failing.by_lowest (allowed_at s) wrong_at (λ x. x ≡ done → AllAllowed s) PastBytes 0 line_length (λ all _. all)
      (λ j low e. absurd (refused_done _ e))

  module _ (e : bytes_answer s ≡ done) where
    low_tests : (eqb (number_in lane s) 0 ≡ false) × (ltb (number_in axles s) 2 ≡ false)
    low_tests = neither (eqb (number_in lane s) 0) (ltb (number_in axles s) 2) LaneOrAxlesTooLow (sym (past_bytes (right_allowed e)) ∙ e)

    pub right_lane : number_in lane s ≡ 0 → ⊥
    right_lane = eqb-false (number_in lane s) 0 low_tests.0

    pub right_axles : 2 ≤ number_in axles s
    right_axles = ltb-false (number_in axles s) 2 low_tests.1

  -- the numbers of a right line fit their digits
  pub right_fit : bytes_answer s ≡ done → Fit (numbers_in s)
  unfolding numbers_in
  right_fit e =
      let all = right_allowed e in (
        number_below s 0 3 (lane-digits all),
        number_below s 4 10 (time-digits all),
        number_below s 15 1 (class-digits all),
        number_below s 17 2 (axles-digits all),
      )

  -- 15
  pub long_line : length s ≡ line_length → line_answer s ≡ bytes_answer s
  unfolding line_answer
  long_line e = simp (eq-eqb (length s) line_length e)

  -- .. and past it 16 and 17
  pub line_asked : length s ≡ line_length → line_answer s ≡ next (asked (allowed_at s) 0 line_length) Err PastBytes
  line_asked e = long_line e ∙ bytes_parts

  pub asked_lane : asked (allowed_at s) 0 line_length ≡ done → Digits s 0 3
  asked_lane e = lane-digits (asked_all (allowed_at s) 0 line_length e)

  pub asked_axles : asked (allowed_at s) 0 line_length ≡ done → Digits s 17 2
  asked_axles e = axles-digits (asked_all (allowed_at s) 0 line_length e)

  pub line_right : (line_answer s ≡ done) ↔ ((length s ≡ line_length) × (bytes_answer s ≡ done))
  unfolding line_answer
  line_right = past (not (eqb (length s) line_length)) (Err LineNot63) (bytes_answer s) done (equal_iff (length s) line_length) (λ e. omega arith) Iff.rfl

-- the digits of the numbers of a line that is not refused
pub record NumbersStand (s : List ℕ) : Type 0 where
  pub long : length s ≡ 63
  pub of_lane : Digits s 0 3
  pub of_time : Digits s 4 10
  pub of_class : Digits s 15 1
  pub of_axles : Digits s 17 2

pub digits_read : (s : List ℕ) → line_answer s ≡ done → NumbersStand s
digits_read s e =
    let told = (line_right s).0 e in
    let all = right_allowed s told.1 in
    record {
      long = told.0;
      of_lane = lane-digits s all;
      of_time = time-digits s all;
      of_class = class-digits s all;
      of_axles = axles-digits s all;
    }

-- What is read.
given-next : (o : Outcome) (m n : Numbers) → next o Err (Ok m) ≡ Ok n → (o ≡ done) × (m ≡ n)
given-next (Ok _) m n e = (refl, cc)
given-next (Err r) m n e = cc

module _ (s : List ℕ) where
  pub read_done : (n : Numbers) → read_answer s ≡ Ok n → (line_answer s ≡ done) × (numbers_in s ≡ n)
  unfolding read_answer
  read_done n = given-next (line_answer s) (numbers_in s) n

  pub done_read : line_answer s ≡ done → read_answer s ≡ Ok (numbers_in s)
  unfolding read_answer
  done_read e = ap (λ o. next o Err (Ok (numbers_in s))) e
