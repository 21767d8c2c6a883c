-- The room for the longest assignment holds that of every record, and after unpacking its front is the entries.
use Rattle.refusal.specs.Refusals.{Outcome, done}
use mathlib.Core.List.{List}
use mathlib.Core.Path.{◌≡◌, ◌∙◌, ap, ap₂, sym}
use Prim.Native.Nat.{ℕ, ◌*◌, ◌≤◌}
use native.Mathlib.Omega.{arith}
use lib.ListN.{length, take}
use Rattle.circuit.specs.Wires.{wire_count}
use Rattle.circuit.specs.declared.circuits.Circuit.TheVariants.{Record}
use Rattle.limits.specs.Blocks.{blocks, most_bits}
use Rattle.limits.specs.Limit.{our_limit}
use Rattle.packing.proofs.Answers.{unpacks_done}
use Rattle.packing.specs.Packed.{unpacked_bytes}
use Rattle.packing.specs.Unpack.{unpack_answer, unpack_left}

pub most_bytes_lem : (n : ℕ) → n ≤ most_bits → 8 * wire_count (Record n) ≤ 2887688
unfolding wire_count blocks
most_bytes_lem n range = omega arith

pub front_unpacked : (n : ℕ) (p room after : List ℕ) (r : Outcome) (end : ℕ) → r ≡ unpack_answer our_limit n p (length room)
    → after ≡ unpack_left r n p room → end ≡ 8 * wire_count (Record n) → r ≡ done → take end after ≡ unpacked_bytes (wire_count (Record n)) p
front_unpacked n p room after r end answered left count done =
    ap₂ take count left
    ∙ ap (λ r. take (8 * wire_count (Record n)) (unpack_left r n p room)) answered
    ∙ unpacks_done our_limit n p room (sym answered ∙ done)
