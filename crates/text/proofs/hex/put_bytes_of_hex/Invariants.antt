-- Turn k puts byte k behind those that stand at the front.
use mathlib.Core.Path.{◌≡◌}
use Prim.Native.Nat.{◌≤◌}
use lib.ListN.{length, take}
use Rattle.text.specs.Hex.{bytes_of_hex}
use Rattle.text.proofs.hex.put_bytes_of_hex.Given as goal

abbrev pub invariant-loop-k : goal.invariant-loop-k
invariant-loop-k l = (l.k ≤ length l.initial.out) × (length l.out ≡ length l.initial.out) × (take l.k l.out ≡ bytes_of_hex l.k l.s l.at)
