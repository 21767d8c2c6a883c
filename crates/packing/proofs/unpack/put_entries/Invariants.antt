-- Before turn j the entries of the first j words of each half are written; a turn writes those of one word more of each.
use Prim.Native.Nat.{◌≤◌}
use Rattle.encoding.specs.Bits.{bit_of_bytes}
use Rattle.packing.proofs.unpack.Halves.{Halves}
use Rattle.packing.proofs.unpack.put_entries.Given as goal

abbrev pub invariant-loop-j : goal.invariant-loop-j
invariant-loop-j l = (l.j ≤ l.half) × Halves (bit_of_bytes l.packed) l.half l.j l.initial.out l.out
