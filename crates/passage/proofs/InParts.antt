-- A line is asked field by field: the parts that are asked one after the other are all of it. A plate's first place is a part by itself.
use Rattle.std.specs.Prelude.{Err}
use mathlib.Core.Bool.{Bool, cond}
use mathlib.Core.List.{List}
use mathlib.Core.Path.{◌≡◌, ◌∙◌, ap}
use Prim.Native.Nat.{ℕ, ◌+◌}
use native.Mathlib.Omega.{arith}
use borrow.Author.Tests.{eq-eqb, ne_eqb}
use Rattle.passage.proofs.Asked.{asked_as, asked_parts}
use Rattle.passage.proofs.PlaceKinds.{plate_allowed}
use Rattle.passage.specs.Format.{allowed_at, fits}
use Rattle.passage.specs.Read.{next}
use Rattle.passage.specs.Runs.{asked, plate_fits}
use Rattle.passage.specs.declared.format.Kind.TheVariants.{PlateFirst, PlateNext}

pub plate_parts : (s : List ℕ) (from : ℕ)
    → asked (plate_fits from s) from 10 ≡ next (asked (fits PlateFirst s) from 1) Err (asked (fits PlateNext s) (from + 1) 9)
plate_parts s from =
    asked_parts (plate_fits from s) from 1 9
    ∙ ap (λ o. next o Err (asked (plate_fits from s) (from + 1) 9))
    (asked_as (plate_fits from s) (fits PlateFirst s) from 1
    (λ k low high. ap (λ t. cond t (fits PlateFirst s k) (fits PlateNext s k)) (eq-eqb k from (omega arith))))
    ∙ ap (next (asked (fits PlateFirst s) from 1) Err)
    (asked_as (plate_fits from s) (fits PlateNext s) (from + 1) 9
    (λ k low high. ap (λ t. cond t (fits PlateFirst s k) (fits PlateNext s k)) (ne_eqb k from (λ e. absurd (omega arith)))))

pub tail_asked : (s : List ℕ)
    → asked (allowed_at s) 20 43
    ≡ next (asked (plate_fits 20 s) 20 10) Err (next (asked (allowed_at s) 30 1) Err (asked (allowed_at s) 31 32))
tail_asked s =
    asked_parts (allowed_at s) 20 10 33
    ∙ ap (λ o. next o Err (asked (allowed_at s) 30 33)) (asked_as (allowed_at s) (plate_fits 20 s) 20 10 (plate_allowed s))
    ∙ ap (next (asked (plate_fits 20 s) 20 10) Err) (asked_parts (allowed_at s) 30 1 32)

module _ (holds : ℕ → Bool) where
  pub tail_parts : asked holds 20 43 ≡ next (asked holds 20 1) Err (next (asked holds 21 9) Err (next (asked holds 30 1) Err (asked holds 31 32)))
  tail_parts =
      asked_parts holds 20 1 42
      ∙ ap (next (asked holds 20 1) Err)
      (asked_parts holds 21 9 33 ∙ ap (next (asked holds 21 9) Err) (asked_parts holds 30 1 32))

  pub line_parts : asked holds 0 63
      ≡ next (asked holds 0 4) Err (next (asked holds 4 11) Err (next (asked holds 15 2) Err (next (asked holds 17 3) Err (asked holds 20 43))))
  line_parts =
      asked_parts holds 0 4 59
      ∙ ap (next (asked holds 0 4) Err)
      (asked_parts holds 4 11 48
      ∙ ap (next (asked holds 4 11) Err)
      (asked_parts holds 15 2 46 ∙ ap (next (asked holds 15 2) Err) (asked_parts holds 17 3 43)))
