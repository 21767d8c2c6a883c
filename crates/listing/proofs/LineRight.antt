-- Refusal 1. A line is read exactly if it is the writing of three numbers below 1,000,000,000: each of its fields is,
-- and nothing stands after the third.
use mathlib.Core.List.{List, [], ◌∷◌, ◌++◌, append_assoc, append-nil}
use mathlib.Core.Logic.{◌↔◌}
use mathlib.Core.Path.{◌≡◌, refl, sym, ap, ◌∙◌}
use Prim.Native.Nat.{ℕ, ◌<◌, ◌≤◌}
use native.Mathlib.Omega.{arith}
use lib.ListN.{length, length-append}
use Rattle.text.proofs.AfterField.{goes_on, length-field, past}
use Rattle.text.specs.Decimal.{field}
use Rattle.text.specs.Text.{comma, line_feed}
use Rattle.std.proofs.lemmas.Option.{none-some, same_Some}
use Rattle.std.specs.Prelude.{None, Option, Some}
use Rattle.listing.specs.Line.{Right, ended, line, numbers, parse_of}
use Rattle.listing.specs.declared.line.Parsed.{Parsed}

-- a right line, field by field
fields : ℕ → ℕ → ℕ → List ℕ
fields n f h = field n comma ++ (field f comma ++ (field h line_feed ++ []))

line_fields : (n f h : ℕ) → line n f h ≡ fields n f h
unfolding line fields
line_fields n f h = simp (append_assoc, append-nil)

read_whole : (n f h : ℕ) → n < 1000000000 → f < 1000000000 → h < 1000000000 → parse_of (fields n f h) ≡ numbers n f h
unfolding parse_of fields
read_whole n f h n-below f-below h-below =
    goes_on None comma _ (omega arith) n n-below (field f comma ++ (field h line_feed ++ []))
    ∙ goes_on None comma _ (omega arith) f f-below (field h line_feed ++ [])
    ∙ goes_on None line_feed _ (omega arith) h h-below []

never : {n f h : ℕ} → None ≡ numbers n f h → ⊥
never e = none-some _ e

-- nothing stands after the third field
all_read :
    (s t₁ t₂ t₃ : List ℕ) (a b c n f h : ℕ)
    → s ≡ field a comma ++ t₁
    → t₁ ≡ field b comma ++ t₂
    → t₂ ≡ field c line_feed ++ t₃
    → (a < 1000000000) × (b < 1000000000) × (c < 1000000000)
    → ended t₃ (numbers a b c) ≡ numbers n f h
    → Right s n f h
unfolding fields
all_read s t₁ t₂ [] a b c n f h is₁ is₂ is₃ below e =
    let read = same_Some _ _ e in
    let a_n : a ≡ n = ap (λ (r : Parsed). r.leading) read in
    let b_f : b ≡ f = ap (λ (r : Parsed). r.first) read in
    let c_h : c ≡ h = ap (λ (r : Parsed). r.many) read in
    let whole : s ≡ fields a b c = cc in
    let same : line a b c ≡ line n f h = cc in
    (rw a_n at below.0, rw b_f at below.1, rw c_h at below.2, whole ∙ sym (line_fields a b c) ∙ same)
all_read s t₁ t₂ (x ∷ t₃) a b c n f h is₁ is₂ is₃ below e = absurd (never e)

pub parse_right : (s : List ℕ) (n f h : ℕ) → (parse_of s ≡ numbers n f h) ↔ Right s n f h
unfolding parse_of
parse_right s n f h = (right, λ given. ap parse_of (given.3 ∙ line_fields n f h) ∙ read_whole n f h given.0 given.1 given.2)
  where
    right : parse_of s ≡ numbers n f h → Right s n f h
    right e =
        let first = past None comma _ s (numbers n f h) never e in
        let second = past None comma _ first.begins.rest (numbers n f h) never first.on in
        let third = past None line_feed _ second.begins.rest (numbers n f h) never second.on in
        all_read s first.begins.rest second.begins.rest third.begins.rest first.v second.v third.v n f h
        first.begins.is second.begins.is third.begins.is
        (first.begins.below, second.begins.below, third.begins.below)
        third.on

-- .. and is refused otherwise
pub parse_wrong : (s : List ℕ) → (parse_of s ≡ None) ↔ ((n f h : ℕ) → Right s n f h → ⊥)
parse_wrong s = (λ bad n f h right. never (sym bad ∙ (parse_right s n f h).1 right), by (parse_of s) refl)
  where
    by : (r : Option Parsed) → parse_of s ≡ r → ((n f h : ℕ) → Right s n f h → ⊥) → parse_of s ≡ None
    by (Some r) read none = absurd (none r.leading r.first r.many ((parse_right s _ _ _).0 read))
    by None read none = read

-- A right line has at most 30 bytes, so a buffer that holds one more is long enough to tell.
pub length-line : (n f h : ℕ) → n < 1000000000 → f < 1000000000 → h < 1000000000 → length (line n f h) ≤ 30
unfolding line
length-line n f h n-below f-below h-below =
    omega (
      arith,
      length-append (field n comma ++ field f comma) (field h line_feed),
      length-append (field n comma) (field f comma),
      length-field n comma n-below,
      length-field f comma f-below,
      length-field h line_feed h-below,
    )

pub long_wrong : (s : List ℕ) → 30 < length s → parse_of s ≡ None
long_wrong s long =
    (parse_wrong s).1 λ n f h right.
    omega (arith, ap length right.3, length-line n f h right.0 right.1 right.2)
