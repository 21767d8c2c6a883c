-- The product of two numbers of 62 bits has 124.
use Prim.Native.Nat.{ℕ, ◌*◌, ◌^◌, ◌<◌}
use native.Mathlib.Nat.{mul-le-mul, le-pred_of_lt}
use native.Mathlib.Omega.{arith}

pub below : (x y : ℕ) → x < 2 ^ 62 → y < 2 ^ 62 → x * y < 2 ^ 124
below x y hx hy = omega (arith, mul-le-mul (le-pred_of_lt hx) (le-pred_of_lt hy))
