-- Packed bytes are accepted exactly when they are the packed wires of a record with this digest. Their entries are the bits, so demand
-- 3 gives the record and says that the bits are its wires; bytes with these bits and no spare bit set are the packed wires. The other
-- way round, packed wires unpack to the record's assignment.
use Rattle.refusal.specs.Refusals.{done}
use mathlib.Core.List.{List}
use mathlib.Core.Logic.{◌↔◌}
use mathlib.Core.Path.{◌≡◌, ◌∙◌, ap, sym}
use Prim.Native.Nat.{ℕ, ◌<◌, ◌≤◌}
use lib.ListN.{length}
use Rattle.acceptance.proofs.Exact.{assigned-wires}
use Rattle.assignment.proofs.Entries.{entries_bytes}
use Rattle.assignment.specs.Assignment.{entry}
use Rattle.circuit.specs.Wires.{wire_count}
use Rattle.circuit.specs.declared.circuits.Circuit.TheVariants.{Record}
use Rattle.encoding.proofs.Bits.{bit_of_bytes_lt}
use Rattle.encoding.proofs.PackedBits.{length-packed, packed_known, spare_of_packed}
use Rattle.encoding.specs.Bits.{bit_of_bytes}
use Rattle.encoding.specs.Bytes.{Bytes}
use Rattle.encoding.specs.Packed.{packed_bytes, spare_bits}
use Rattle.limits.proofs.Limited.{ours_allow}
use Rattle.limits.specs.Blocks.{most_bits}
use Rattle.limits.specs.Handed.{IsRecord}
use Rattle.limits.specs.Limit.{our_limit}
use Rattle.packing.proofs.Answers.{check_done}
use Rattle.packing.proofs.RoundTrip.{entry_of_unpacked, unpacked_packed}
use Rattle.packing.specs.Packed.{unpacked_bytes}
use Rattle.packing.specs.PackedCheck.{PackedExact, packed_check_answer}
use Rattle.record.proofs.Demand3.{demand3, record_layout}
use Rattle.record.proofs.exact.WireBits.{wire_lt}
use Rattle.record.specs.Check.{check_answer}
use Rattle.record.specs.Layout.{wire_of}
use Rattle.record.specs.Produce.{assignment_of}
use Rattle.sm3.specs.Message.{digest_bytes}

unpacked_bytes_lem : (wires : ℕ) (p : List ℕ) → Bytes (unpacked_bytes wires p)
unfolding unpacked_bytes
unpacked_bytes_lem wires p = entries_bytes wires (bit_of_bytes p)

-- the wires of a record r of n bits
abbrev wires_of : ℕ → List ℕ → ℕ → ℕ
wires_of n r = wire_of n (bit_of_bytes r)

wires-bits : (n : ℕ) (r : List ℕ) (w : ℕ) → w < wire_count (Record n) → wires_of n r w < 2
wires-bits n r w l = wire_lt n (bit_of_bytes r) (λ k h. bit_of_bytes_lt r k) w

module _ (n : ℕ) (d p : List ℕ) (range : n ≤ most_bits) (digest : Bytes d) (bytes : Bytes p) where
  abbrev wires : ℕ
  wires = wire_count (Record n)

  abbrev u : List ℕ
  u = unpacked_bytes wires p

  entries_exact : (check_answer our_limit n d u ≡ done)
      ↔ ((r : List ℕ) × IsRecord n r × (digest_bytes n r ≡ d) × (u ≡ assignment_of n (bit_of_bytes r)))
  entries_exact = demand3.exact our_limit n d u (ours_allow n range) digest (unpacked_bytes_lem wires p)

  exact : (packed_check_answer n d p ≡ done)
      ↔ ((r : List ℕ) × IsRecord n r × (digest_bytes n r ≡ d) × (p ≡ packed_bytes wires (wires_of n r)))
  unfolding assignment_of
  exact = (
    λ accepted.
        let passed = (check_done n d p).0 accepted in
        let (r, is, same, whole) = entries_exact.0 passed.1.1.1 in (
          r,
          is,
          same,
          sym
              (packed_known wires (wires_of n r) (wires-bits n r) p bytes passed.1.0 passed.1.1.0
              (λ w l. sym (entry_of_unpacked wires p w l) ∙ ap (λ a. entry a w) whole ∙ assigned-wires (record_layout n) r is w l)),
        ),
    λ (r, is, same, packed).
        (check_done n d p).1 (
          ours_allow n range,
          (
            ap length packed ∙ length-packed wires (wires_of n r),
            (
              ap (spare_bits wires) packed ∙ spare_of_packed wires (wires_of n r) (wires-bits n r),
              entries_exact.1 (r, is, same, ap (unpacked_bytes wires) packed ∙ unpacked_packed wires (wires_of n r) (wires-bits n r)),
            ),
          ),
        ),
  )

pub packed_exact : PackedExact
packed_exact = exact
