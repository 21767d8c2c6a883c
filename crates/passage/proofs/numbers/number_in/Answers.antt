-- Before turn i the value is that of the first i digits, below 10 ^ i; the bytes are those of the field.
use mathlib.Core.List.{List}
use mathlib.Core.Path.{◌≡◌, ◌∙◌, ap, ap₂, refl, sym}
use Prim.Native.Nat.{ℕ, ◌+◌, ◌-◌, ◌*◌, ◌^◌, ◌<◌, ◌≤◌}
use native.Mathlib.Nat.{pow-le-pow_right}
use native.Mathlib.Numerals.{add-one}
use native.Mathlib.Omega.{arith}
use lib.ListN.{drop, get_or, length, length-drop, take}
use lib.Seq.{get_or-drop, get_or-take, length-take-le}
use Rattle.passage.proofs.Numerals.{number_below}
use Rattle.passage.specs.Format.{number_from}
use Rattle.passage.specs.Runs.{Digits}
use Rattle.text.proofs.Digits.{digit_bounds}
use Rattle.passage.proofs.numbers.number_in.Goals as goal

-- a field's bytes, as they are gone through
module _ (s : List ℕ) (at n : ℕ) (room : at + n ≤ length s) where
  abbrev bytes : List ℕ
  bytes = take (at + n - at) (drop at s)

  length-bytes : length bytes ≡ n
  length-bytes =
      let count : at + n - at ≡ n = omega arith in
      ap (λ m. length (take m (drop at s))) count ∙ length-take-le n (drop at s) (omega (arith, length-drop at s))

  byte_at : (i : ℕ) → i < length bytes → get_or bytes i 0 ≡ get_or s (at + i) 0
  byte_at i l =
      let count : at + n - at ≡ n = omega arith in
      ap (λ m. get_or (take m (drop at s)) i 0) count ∙ get_or-take n (drop at s) i 0 (omega (arith, length-bytes)) ∙ get_or-drop at s i 0

  byte_digit : Digits s at n → (i : ℕ) → i < length bytes → (48 ≤ get_or bytes i 0) × (get_or bytes i 0 ≤ 57)
  byte_digit digits i l =
      let bounds = digit_bounds (get_or s (at + i) 0) (digits i (omega (arith, length-bytes))) in
      (omega (arith, byte_at i l, bounds.0), omega (arith, byte_at i l, bounds.1))

  -- the value before the last of at most 10 digits
  before_last : (i value : ℕ) → Digits s at n → n ≤ 10 → i < length bytes → value ≡ number_from s at i → value < 10 ^ 9
  before_last i value digits most l e =
      omega (
        arith,
        length-bytes,
        number_below s at i (λ j h. digits j (omega (arith, length-bytes))),
        pow-le-pow_right {n = 10} (omega arith) {i = i} {j = 9} (omega (arith, length-bytes)),
      )

  -- a digit more
  more : (i value digit : ℕ) → i < length bytes → value ≡ number_from s at i → digit ≡ get_or bytes i 0 - 48
      → 10 * value + digit ≡ number_from s at (i + 1)
  unfolding number_from
  more i value digit l e d =
      ap₂ (λ v x. 10 * v + x) e (d ∙ ap (λ b. b - 48) (byte_at i l)) ∙ ap (number_from s at) (sym (add-one i))

pub loop-c-init : goal.loop-c-init
unfolding number_from
loop-c-init c = refl

pub overflow_mul-value : goal.overflow_mul-value
overflow_mul-value c =
    let small = before_last _ _ _ c.requires.room _ c.loop-c.value c.requires.digits c.requires.short c.loop-c-test.true c.loop-c.invariant in
    omega arith

pub overflow_sub-c : goal.overflow_sub-c
overflow_sub-c c = (byte_digit _ _ _ c.requires.room c.requires.digits c.loop-c.c-index c.loop-c-test.true).0

pub overflow_add-value : goal.overflow_add-value
overflow_add-value c =
    let small = before_last _ _ _ c.requires.room _ c.loop-c.value c.requires.digits c.requires.short c.loop-c-test.true c.loop-c.invariant in
    let digit = (byte_digit _ _ _ c.requires.room c.requires.digits c.loop-c.c-index c.loop-c-test.true).1 in
    omega (arith, c.from.ensures)

pub loop-c-preserved : goal.loop-c-preserved
loop-c-preserved c = more _ _ _ c.requires.room _ _ _ c.loop-c-test.true c.loop-c.invariant c.from.ensures

pub returns : goal.returns
returns c =
    let s = c.args.line.now in
    let at = c.args.field.first in
    let n = c.args.field.many in
    let all : c.loop-c.c-index ≡ n = omega (arith, length-bytes s at n c.requires.room) in
    let read : c.loop-c.value ≡ number_from s at n = c.loop-c.invariant ∙ ap (number_from s at) all in
    record { value = read; below = omega (arith, number_below s at n c.requires.digits) }
