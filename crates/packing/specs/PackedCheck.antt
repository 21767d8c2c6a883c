-- The check of packed bytes against a digest, as the program `packed` answers it (document 02, requests 1 and 8).
use Rattle.refusal.specs.Refusals.{Outcome, done}
use Rattle.std.specs.Prelude.{List, ◌↔◌, ◌≡◌, ℕ, ◌≤◌}
use Rattle.circuit.specs.Wires.{wire_count}
use Rattle.circuit.specs.declared.circuits.Circuit.TheVariants.{Record}
use Rattle.encoding.specs.Bits.{bit_of_bytes}
use Rattle.encoding.specs.Bytes.{Bytes}
use Rattle.encoding.specs.Packed.{packed_bytes}
use Rattle.limits.specs.Blocks.{most_bits}
use Rattle.limits.specs.Handed.{IsRecord}
use Rattle.limits.specs.Limit.{length_answer, our_limit}
use Rattle.packing.specs.Packed.{unpacked_bytes}
use Rattle.packing.specs.Unpack.{packed_answer}
use Rattle.record.specs.Check.{check_answer}
use Rattle.record.specs.Layout.{wire_of}
use Rattle.sm3.specs.Message.{digest_bytes}

-- for records of n bits, with our limit: 2, 11 and 12, and then the answer of document 01's check to the entries
unfoldable pub packed_check_answer : ℕ → List ℕ → List ℕ → Outcome
packed_check_answer n digest packed =
    length_answer our_limit n
    (packed_answer (wire_count (Record n)) packed (check_answer our_limit n digest (unpacked_bytes (wire_count (Record n)) packed)))

-- demand 3 of packed bytes: they are accepted exactly when they are the packed wires of some record that has this digest
abbrev pub PackedExact : Type 0
PackedExact =
    (n : ℕ) (d p : List ℕ) → n ≤ most_bits → Bytes d → Bytes p
    → (packed_check_answer n d p ≡ done)
    ↔ ((r : List ℕ) × IsRecord n r × (digest_bytes n r ≡ d)
    × (p ≡ packed_bytes (wire_count (Record n)) (wire_of n (bit_of_bytes r))))
