-- The record in its message and on its wires. Bits before bit n of the message are the record's; the padding after them does
-- not depend on the record. So the wires are a function of the record's n bits, and those stand on the record wires.
use mathlib.Core.Path.{◌≡◌, ◌∙◌, ap, sym}
use Prim.Native.Nat.{ℕ, ◌+◌, ◌*◌, ◌/◌, ◌%◌, ◌<◌}
use native.Mathlib.Nat.{div-add-mod, mod-eq_of_lt, zero-add}
use native.Mathlib.Omega.{arith}
use Rattle.block.specs.BlockWires.{block_wires}
use Rattle.block.specs.MessageWires.{message_wires}
use Rattle.block.specs.Wires.{wires_per_block}
use Rattle.circuit.specs.Wires.{frame_wires, wire_count, block_first}
use Rattle.circuit.specs.declared.circuits.Circuit.TheVariants.{Record}
use Rattle.encoding.proofs.PackedBits.{length-packed, packed-bit, packed_bytes_lem, packed_congruent, spare_of_packed}
use Rattle.encoding.proofs.Sequence.{beside_first, beside_then, grid-at}
use Rattle.encoding.specs.Bits.{bit_of_bytes}
use Rattle.encoding.specs.Packed.{packed_bytes}
use Rattle.forms.proofs.exact.Runs.{Agree}
use Rattle.limits.specs.Blocks.{blocks}
use Rattle.limits.specs.Handed.{IsRecord}
use Rattle.record.specs.Layout.{record_wire, wire_of}
use Rattle.sm3.proofs.message.MessageBits.{message_congruent, message_content}
use Rattle.sm3.specs.Message.{block_bits, chaining_value, digest_of, message}

-- the record that is read off the record wires
abbrev pub read_off : (ℕ → ℕ) → ℕ → ℕ
read_off a k = a (record_wire k) % 2

-- it is a record, packed into bytes, and has the bits that are read off
pub packed_record : (n : ℕ) (a : ℕ → ℕ)
    → IsRecord n (packed_bytes n (read_off a)) × ((k : ℕ) → k < n → read_off a k ≡ bit_of_bytes (packed_bytes n (read_off a)) k)
packed_record n a =
    let bits : (k : ℕ) → k < n → read_off a k < 2 = λ k l. omega arith in (
      record {
        bytes = packed_bytes_lem n (read_off a) bits;
        size = length-packed n (read_off a);
        spare = spare_of_packed n (read_off a) bits;
      },
      λ k l. sym (packed-bit n (read_off a) bits k l),
    )

-- .. of which the record wires alone are asked
pub packed_off : (n : ℕ) (a b : ℕ → ℕ) → ((k : ℕ) → k < n → a (record_wire k) ≡ b (record_wire k)) → packed_bytes n (read_off a) ≡ packed_bytes n (read_off b)
packed_off n a b same = packed_congruent n (read_off a) (read_off b) (λ k l. ap (λ x. x % 2) (same k l))

pub wires_congruent : (n : ℕ) (r t : ℕ → ℕ) → ((k : ℕ) → k < n → r k ≡ t k) → wire_of n r ≡ wire_of n t
unfolding wire_of digest_of
wires_congruent n r t e = ap (λ m. frame_wires (chaining_value m (blocks n)) (message_wires m)) (message_congruent n r t e)

pub record_wire_lem : (i j : ℕ) → j < 512 → record_wire (512 * i + j) ≡ block_first i + j
unfolding record_wire
record_wire_lem i j l = omega arith

pub wire_of_record : (n : ℕ) (r : ℕ → ℕ) (k : ℕ) → k < n → wire_of n r (record_wire k) ≡ r k
unfolding wire_of frame_wires message_wires block_wires block_bits record_wire
wire_of_record n r k l =
    let w : ℕ = wires_per_block * (k / 512) + k % 512 in
    let place : record_wire k ≡ 1 + (256 + (256 + w)) = omega arith in
    ap (wire_of n r) place
    ∙ beside_then 1 _ _ (256 + (256 + w))
    ∙ beside_then 256 _ _ (256 + w)
    ∙ beside_then 256 _ _ w
    ∙ grid-at wires_per_block _ (k / 512) (k % 512) (omega arith)
    ∙ beside_first 512 _ _ (k % 512) (omega arith)
    ∙ ap (message n r) (div-add-mod k 512)
    ∙ message_content n r k l

pub record_wire_lt : (n k : ℕ) → k < n → record_wire k < wire_count (Record n)
unfolding wire_count record_wire blocks
record_wire_lt n k l = omega arith

-- where the wires agree, the record is read off again
pub read_off_lem : (n : ℕ) (a r : ℕ → ℕ) → ((k : ℕ) → k < n → r k < 2) → Agree a 0 (wire_count (Record n)) (wire_of n r)
    → (k : ℕ) → k < n → read_off a k ≡ r k
read_off_lem n a r bits agree k l =
    ap (λ w. a w % 2) (sym (zero-add (record_wire k)))
    ∙ ap (λ x. x % 2) (agree (record_wire k) (record_wire_lt n k l) ∙ wire_of_record n r k l)
    ∙ mod-eq_of_lt (bits k l)
