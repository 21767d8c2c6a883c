-- Both digits lie within, and their values are below 16.
use Prim.Native.Nat.{◌+◌}
use native.Mathlib.Omega.{arith}
use Rattle.text.proofs.HexDigits.{hex-within}
use Rattle.text.proofs.hex.byte_of_hex.Goals as goal

-- the second digit, and so the first, lies within
pub bounds-s-at : goal.bounds-s-at
bounds-s-at c = omega (arith, hex-within c.args.s.now (c.args.at + 1) c.requires.1)

pub overflow_add-at : goal.overflow_add-at
overflow_add-at c = omega (arith, hex-within c.args.s.now (c.args.at + 1) c.requires.1)

pub bounds-s-at-2 : goal.bounds-s-at-2
bounds-s-at-2 c = hex-within c.args.s.now (c.args.at + 1) c.requires.1
