-- A number below 10 is its digit. Of any other the writing of its tenth stands before its last digit, so the call
-- writes that and the last digit goes after it. A number of 64 bits has at most 20 digits.
use mathlib.Core.List.{List, [], ◌∷◌}
use mathlib.Core.Path.{◌≡◌}
use Prim.Native.Nat.{ℕ, ◌+◌, ◌/◌, ◌%◌, ◌^◌, ◌≤◌, ◌<◌}
use native.Mathlib.Omega.{arith}
use lib.ListN.{length, set, length-append}
use Rattle.text.specs.Decimal.{decimal, digit}
use Rattle.text.specs.Put.{Put}
use Rattle.text.proofs.Digits.{decimal_low, decimal_high, length-decimal_64}
use Rattle.text.proofs.Put.{put_byte, put_then_byte}
use Rattle.text.proofs.decimal.+put_decimal.Goals as goal

put_low : (l : List ℕ) (at x : ℕ) → x < 10 → Put l at (decimal x) (set l at (digit x)) (at + 1)
put_low l at x low = rw (decimal_low x low) (put_byte l at (digit x))

put_high :
    {l : List ℕ} {at x : ℕ} {l' : List ℕ} {m : ℕ}
    → 10 ≤ x
    → Put l at (decimal (x / 10)) l' m
    → Put l at (decimal x) (set l' m (digit (x % 10))) (m + 1)
put_high {l} {at} {x} {l'} {m} high p =
    rw (decimal_high x high) (put_then_byte p (digit (x % 10)))

-- the last digit has room
room : {l : List ℕ} {at x : ℕ} {l' : List ℕ} {m : ℕ} → 10 ≤ x → x < 2 ^ 64 → Put l at (decimal (x / 10)) l' m → m + 1 ≤ at + 20
room {l} {at} {x} {l'} {m} high below p =
    let one_more : length (decimal x) ≡ length (decimal (x / 10)) + 1 =
    rw (decimal_high x high) (length-append (decimal (x / 10)) (digit (x % 10) ∷ [])) in
    omega (arith, length-decimal_64 x below, p.ends)

pub returns-then-x-lt10 : goal.returns-then-x-lt10
returns-then-x-lt10 t c = (put_low c.args.out.now c.args.at c.args.x c.if-x-lt10.true, omega arith)

pub bounds-out-last : goal.bounds-out-last
bounds-out-last t c =
    omega (arith, room c.if-x-lt10.false c.ranges.x.fits c.put_decimal-last.ensures.0, c.put_decimal-last.auto.out)

pub returns : goal.returns
returns t c =
    (put_high c.if-x-lt10.false c.put_decimal-last.ensures.0, room c.if-x-lt10.false c.ranges.x.fits c.put_decimal-last.ensures.0)
