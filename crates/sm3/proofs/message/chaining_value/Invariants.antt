-- Before block i the state is what the message's blocks so far have come to.
use Rattle.std.proofs.Common.{◌≡◌, ◌≤◌}
use Rattle.sm3.specs.Message.{chaining_value, message}
use Rattle.encoding.specs.Bits.{bit_of_bytes}
use Rattle.sm3.proofs.message.chaining_value.Given as goal

abbrev pub invariant-loop-i : goal.invariant-loop-i
invariant-loop-i l =
    (l.i ≤ l.k) × (l.v ≡ chaining_value (message l.handed.bits (bit_of_bytes l.handed.bytes.now)) l.i)
