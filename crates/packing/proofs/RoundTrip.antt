-- Packing and unpacking undo each other. Bit w of packed bytes is the value of wire w: entries that are unpacked are the bits, and bits
-- that are packed are the entries, which write the assignment's bytes. An accepted assignment's wires are those of a record, which are
-- bits.
use Rattle.refusal.specs.Refusals.{done}
use mathlib.Core.List.{List}
use mathlib.Core.Path.{◌≡◌, ◌∙◌, refl, subst, sym}
use Prim.Native.Nat.{ℕ, ◌*◌, ◌<◌, ◌≤◌}
use native.Mathlib.Omega.{arith}
use lib.ListN.{length}
use Rattle.acceptance.proofs.Exact.{accepted_bits}
use Rattle.assignment.proofs.Entries.{bytes_of_entries, entry-written, length_entries}
use Rattle.assignment.proofs.Writes.{entries_congruent}
use Rattle.assignment.specs.Assignment.{entry, entry_bytes}
use Rattle.circuit.specs.Wires.{wire_count}
use Rattle.circuit.specs.declared.circuits.Circuit.TheVariants.{Record}
use Rattle.encoding.proofs.Bits.{bit_of_bytes_lt}
use Rattle.encoding.proofs.PackedBits.{length-packed, packed-bit, packed_known, spare_of_packed}
use Rattle.encoding.specs.Bits.{bit_of_bytes}
use Rattle.encoding.specs.Bytes.{Bytes}
use Rattle.encoding.specs.Packed.{packed_bytes, packed_length}
use Rattle.packing.proofs.Answers.{pack_done, packs_done, unpack_done, unpacks_done}
use Rattle.packing.specs.Pack.{pack_answer}
use Rattle.packing.specs.Packed.{unpacked_bytes}
use Rattle.packing.specs.RoundTrip.{RoundTrip, packs, unpacks}
use Rattle.packing.specs.Unpack.{unpack_answer}
use Rattle.record.proofs.Accepted.{accepted_iff}
use Rattle.record.proofs.Demand3.{record_layout}
use Rattle.record.specs.Demand3.{IsAccepted}

-- an unpacked entry is its bit
pub entry_of_unpacked : (wires : ℕ) (q : List ℕ) (w : ℕ) → w < wires → entry (unpacked_bytes wires q) w ≡ bit_of_bytes q w
unfolding unpacked_bytes
entry_of_unpacked wires q w l = entry-written wires (bit_of_bytes q) w l (omega (arith, bit_of_bytes_lt q w))

length_unpacked : (wires : ℕ) (q : List ℕ) → length (unpacked_bytes wires q) ≡ 8 * wires
unfolding unpacked_bytes
length_unpacked wires q = length_entries wires (bit_of_bytes q)

-- unpacked, packed bytes give the values that were packed
pub unpacked_packed : (wires : ℕ) (s : ℕ → ℕ) → ((w : ℕ) → w < wires → s w < 2) → unpacked_bytes wires (packed_bytes wires s) ≡ entry_bytes wires s
unfolding unpacked_bytes
unpacked_packed wires s bits = entries_congruent wires _ s (packed-bit wires s bits)

module _ (l n : ℕ) (a out : List ℕ) (bytes : Bytes a) (passed : pack_answer l n a (length out) ≡ done) where
  unpack_of_packed : (room : List ℕ) → 8 * wire_count (Record n) ≤ length room
      → (unpack_answer l n (packs l n a out) (length room) ≡ done) × (unpacks l n (packs l n a out) room ≡ a)
  unpack_of_packed room fits =
      let wires : ℕ = wire_count (Record n) in
      let asked = (pack_done l n a (length out)).0 passed in
      let bits = asked.1.1.1 in
      let whole : unpack_answer l n (packed_bytes wires (entry a)) (length room) ≡ done =
      (unpack_done l n (packed_bytes wires (entry a)) (length room)).1
      (asked.0, (fits, (length-packed wires (entry a), (spare_of_packed wires (entry a) bits, refl)))) in
      subst (λ q. (unpack_answer l n q (length room) ≡ done) × (unpacks l n q room ≡ a)) (sym (packs_done l n a out passed)) (
        whole,
        unpacks_done l n (packed_bytes wires (entry a)) room whole
            ∙ unpacked_packed wires (entry a) bits
            ∙ sym (bytes_of_entries wires (entry a) a bytes asked.1.1.0 (λ w l. refl)),
      )

module _ (l n : ℕ) (q out : List ℕ) (bytes : Bytes q) (passed : unpack_answer l n q (length out) ≡ done) where
  pack_of_unpacked : (room : List ℕ) → packed_length (wire_count (Record n)) ≤ length room
      → (pack_answer l n (unpacks l n q out) (length room) ≡ done) × (packs l n (unpacks l n q out) room ≡ q)
  pack_of_unpacked room fits =
      let wires : ℕ = wire_count (Record n) in
      let u = unpacked_bytes wires q in
      let asked = (unpack_done l n q (length out)).0 passed in
      let bits : (w : ℕ) → w < wires → entry u w < 2 =
      λ w l. omega (arith, entry_of_unpacked wires q w l, bit_of_bytes_lt q w) in
      let whole : pack_answer l n u (length room) ≡ done =
      (pack_done l n u (length room)).1 (asked.0, (fits, (length_unpacked wires q, bits))) in
      subst (λ b. (pack_answer l n b (length room) ≡ done) × (packs l n b room ≡ q)) (sym (unpacks_done l n q out passed)) (
        whole,
        packs_done l n u room whole
            ∙ packed_known wires (entry u) bits q bytes asked.1.1.0 asked.1.1.1.0
            (λ w l. sym (entry_of_unpacked wires q w l)),
      )

accepted_packs : (l n : ℕ) (d a : List ℕ) (room : ℕ) → IsAccepted l n d a → packed_length (wire_count (Record n)) ≤ room
    → pack_answer l n a room ≡ done
accepted_packs l n d a room accepted fits =
    let (allowed, accepts) = (accepted_iff l n d a).0 accepted in
    (pack_done l n a room).1 (allowed, (fits, (accepts.passed.assignment_length, accepted_bits (record_layout n) accepts)))

pub round_trip : RoundTrip
round_trip =
    record {
      unpacked = λ l n a out room bytes done fits. unpack_of_packed l n a out bytes done room fits;
      packed = λ l n q out room bytes done fits. pack_of_unpacked l n q out bytes done room fits;
      accepted = accepted_packs;
    }
