-- The definition reads on from any state, so the loop keeps that reading on from where it stands gives the answer; each
-- byte then does what the definition says of it.
use mathlib.Core.Bool.{true}
use mathlib.Core.List.{List, ◌∷◌}
use mathlib.Core.Path.{◌≡◌, sym, ap, ◌∙◌}
use Prim.Native.Nat.{ℕ, ◌+◌, ◌*◌, ◌<◌, ◌≤◌}
use native.Mathlib.Omega.{arith}
use lib.ListN.{drop, get_or, length, drop_of_length-le}
use Rattle.std.proofs.lemmas.List.{drop_more}
use Rattle.std.proofs.lemmas.Slice.{between_to_end}
use Rattle.std.specs.Prelude.{Option}
use Rattle.text.specs.Field.{continues, field_from, field_of}
use Rattle.text.specs.declared.field.Field.{Field}
use Rattle.text.proofs.Fields.{digit-more, digit_wrong, next-digit, no_stop, stopped}
use Rattle.text.proofs.field.read_field.Goals as goal

-- in a turn, the byte at n is next
next :
    (whole : Option Field) (stop v n : ℕ) (s : List ℕ)
    → whole ≡ field_from stop v n (drop n s)
    → n < length s
    → whole ≡ field_from stop v n (get_or s n 0 ∷ drop (n + 1) s)
next whole stop v n s stands inside = stands ∙ ap (field_from stop v n) (drop_more s n 0 inside)

pub returns-in_err-c-items : goal.returns-in_err-c-items
unfolding field_of
returns-in_err-c-items c =
    let past : length c.args.s.now ≤ c.args.at = omega (arith, c.in_err-c-items.ensures.lookup.0) in
    c.from_residual.ensures
    ∙ sym (ap (field_from c.args.stop 0 0) (drop_of_length-le c.args.s.now past) ∙ no_stop c.args.stop 0 0)

pub loop-n-init : goal.loop-n-init
unfolding field_of
loop-n-init c =
    let s = c.args.s.now in
    let items = c.in_ok-c-items.ensures.lookup.0.2 ∙ between_to_end s c.args.at (length s) (omega arith) in
    (omega arith, ap (field_from c.args.stop 0 0) (sym items))

pub returns-then-c-stop : goal.returns-then-c-stop
returns-then-c-stop c =
    let loop = c.loop-n in
    c.then_some.ensures
    ∙ sym
    (next _ c.args.stop loop.value loop.n c.in_ok-c-items.c-items.now loop.invariant.1 c.loop-n-test.true
    ∙ stopped c.args.stop loop.value _ _ _ c.if-c-stop.true)

pub returns-then-not-is_next_digit : goal.returns-then-not-is_next_digit
returns-then-not-is_next_digit c =
    let loop = c.loop-n in
    sym
    (next _ c.args.stop loop.value loop.n c.in_ok-c-items.c-items.now loop.invariant.1 c.loop-n-test.true
    ∙ digit_wrong c.args.stop loop.value _ _ _ c.if-c-stop.false
    (sym c.is_next_digit.ensures ∙ c.if-not-is_next_digit.true))

pub overflow_sub-c : goal.overflow_sub-c
overflow_sub-c c =
    omega (arith, (next-digit _ _ _ (sym c.is_next_digit.ensures ∙ c.if-not-is_next_digit.false)).low)

pub overflow_add-value : goal.overflow_add-value
overflow_add-value c =
    omega (arith, (next-digit _ _ _ (sym c.is_next_digit.ensures ∙ c.if-not-is_next_digit.false)).high)

pub loop-n-preserved : goal.loop-n-preserved
loop-n-preserved c =
    let loop = c.loop-n in
    let s = c.in_ok-c-items.c-items.now in
    let stop = c.args.stop in
    let here = get_or s loop.n 0 in
    let follows : continues loop.value loop.n here ≡ true =
    sym c.is_next_digit.ensures ∙ c.if-not-is_next_digit.false in
    let digit = next-digit _ _ _ follows in (
      omega (arith, c.from.ensures, digit.high, digit.below),
      next _ stop loop.value loop.n s loop.invariant.1 c.loop-n-test.true
          ∙ digit-more stop loop.value _ _ _ c.if-c-stop.false follows
          ∙ ap (λ (d : ℕ). field_from stop (10 * loop.value + d) (loop.n + 1) (drop (loop.n + 1) s)) (sym c.from.ensures),
    )

pub returns : goal.returns
returns c =
    let loop = c.loop-n in
    let items = c.in_ok-c-items.c-items.now in
    sym
    (loop.invariant.1
    ∙ ap (field_from c.args.stop loop.value loop.n) (drop_of_length-le items c.loop-n-test.false)
    ∙ no_stop c.args.stop loop.value loop.n)
