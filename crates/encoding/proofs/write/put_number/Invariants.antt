-- Turn i writes byte i: what is left of the number has been divided by 256 i times.
use mathlib.Core.Path.{◌≡◌}
use Prim.Native.Nat.{◌/◌, ◌≤◌, ◌^◌}
use Rattle.encoding.specs.Bytes.{least_first}
use Rattle.encoding.specs.Written.{Written}
use Rattle.encoding.proofs.write.put_number.Given as goal

abbrev pub invariant-loop-byte : goal.invariant-loop-byte
invariant-loop-byte l =
    (l.byte-index ≤ l.n)
    × (l.left ≡ l.x / 256 ^ l.byte-index)
    × Written 0 (least_first l.byte-index l.x) l.initial.byte-items l.byte-items
