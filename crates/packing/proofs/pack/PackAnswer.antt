-- The answer of `pack` past its tests of lengths: what the entries are answered.
use mathlib.Core.List.{List}
use mathlib.Core.Path.{◌≡◌, ◌∙◌, sym}
use Prim.Native.Nat.{ℕ, ◌*◌, ◌≤◌}
use borrow.Author.Tests.{eq-eqb, le-ltb}
use lib.ListN.{length}
use Rattle.assignment.specs.BelowPrime.{below_prime_answer}
use Rattle.circuit.specs.Wires.{wire_count}
use Rattle.circuit.specs.declared.circuits.Circuit.TheVariants.{Record}
use Rattle.encoding.specs.Packed.{packed_length}
use Rattle.limits.proofs.limit.Tests.{length_before}
use Rattle.limits.specs.Limit.{length_answer}
use Rattle.packing.specs.Pack.{bits_answer, pack_answer}
use Rattle.refusal.specs.Refusals.{done}

-- past the tests of the lengths, what the m entries are answered is the answer
pub entries_decide : (l n m room : ℕ) (a : List ℕ) → m ≡ wire_count (Record n) → length_answer l n done ≡ done → packed_length m ≤ room → length a ≡ 8 * m
    → below_prime_answer m a (bits_answer m a) ≡ pack_answer l n a room
unfolding pack_answer
entries_decide l n m room a counted allowed enough long =
    rw (← counted) (sym ((length_before l n).passed _ allowed ∙ simp (le-ltb room (packed_length m) enough, eq-eqb (length a) (8 * m) long)))
