-- The answers of packing, unpacking and the check of packed bytes, test by test. They are done past all their tests, each of which is a
-- condition that holds; and unpacking refuses what the check of packed bytes refuses before document 01's check.
use Rattle.std.specs.Prelude.{Err}
use mathlib.Core.Bool.{not}
use mathlib.Core.List.{List}
use mathlib.Core.Logic.Iff
use mathlib.Core.Logic.{◌↔◌, by_cases}
use mathlib.Core.Path.{◌≡◌, ◌∙◌, ap, refl, sym}
use Prim.Native.Nat.{ℕ, ◌*◌, ◌<◌, ◌≤◌}
use native.Mathlib.Decide.{dec_lt}
use native.Mathlib.Omega.{arith}
use borrow.Author.Tests.{le-ltb, lt-ltb, ltb-false, ne_eqb}
use lib.Dec.{eqb, ltb}
use lib.ListN.{drop, length, take}
use lib.Seq.{take_at}
use Rattle.assignment.proofs.Entries.{entries_front}
use Rattle.assignment.proofs.EntriesBelow.{limit_holds}
use Rattle.assignment.specs.Assignment.{entry}
use Rattle.circuit.specs.Wires.{wire_count}
use Rattle.circuit.specs.declared.circuits.Circuit.TheVariants.{Record}
use Rattle.encoding.proofs.PackedBits.{length-packed}
use Rattle.encoding.specs.Packed.{packed_bytes, packed_length, spare_bits}
use Rattle.limits.proofs.Limited.{Other, other_number, ours_length}
use Rattle.limits.proofs.limit.Tests.{length_passes, past-length}
use Rattle.limits.specs.Blocks.{most_bits}
use Rattle.limits.specs.Limit.{Allows, our_limit}
use Rattle.packing.proofs.pack.EntriesAsked.{asked_done}
use Rattle.packing.specs.Pack.{pack_answer, pack_asked, pack_left}
use Rattle.packing.specs.Packed.{unpacked_bytes}
use Rattle.packing.specs.PackedCheck.{packed_check_answer}
use Rattle.packing.specs.RoundTrip.{packs, unpacks}
use Rattle.packing.specs.Unpack.{packed_answer, unpack_answer, unpack_asked, unpack_left}
use Rattle.record.specs.Check.{check_answer}
use Rattle.refusal.proofs.Small.{tested}
use Rattle.refusal.proofs.Tests.{Before, equal_iff, no_test, one_test, past}
use Rattle.refusal.specs.Refusals.{outcome_number, Outcome, done}
use Rattle.refusal.specs.declared.outcome.Refusal.TheVariants.{BufferTooShort, EntryNotBelowPrime, EntryNotBit, LengthOutOfRange, SpareBit, WrongLength, WrongPackedLength}
use Rattle.refusal.specs.declared.outcome.Refusal.{Refusal}

-- the packed bytes of so many wires have their length, and no spare bit is set
packed_done : (wires : ℕ) (p : List ℕ) (next : Outcome)
    → (packed_answer wires p next ≡ done) ↔ ((length p ≡ packed_length wires) × ((spare_bits wires p ≡ 0) × (next ≡ done)))
unfolding packed_answer
packed_done wires p next =
    past _ (Err WrongPackedLength) _ done (equal_iff (length p) (packed_length wires)) (λ e. omega arith)
    (past _ (Err SpareBit) _ done (equal_iff (spare_bits wires p) 0) (λ e. omega arith) Iff.rfl)

-- what is asked of them stands before any further answer
asked-first : (wires : ℕ) (p : List ℕ) → Before (packed_answer wires p)
unfolding packed_answer
asked-first wires p =
    one_test (not (eqb (length p) (packed_length wires))) WrongPackedLength _
    (one_test (not (eqb (spare_bits wires p) 0)) SpareBit _ no_test)

-- What holds of all answers that packing or unpacking n wires could give holds of the answer.
module _ (P : Outcome → Type 0) (n : ℕ) where
  pub pack-holds : (a : List ℕ) (room : ℕ) → P (Err BufferTooShort) → P (Err WrongLength)
      → ((w : ℕ) → w < n → P (Err (EntryNotBelowPrime (record { 0 = w })))) → ((w : ℕ) → w < n → P (Err (EntryNotBit (record { 0 = w }))))
      → P done → P (pack_asked n a room)
  pack-holds a room short long below bits done =
      tested P (ltb room (packed_length n)) short
      (λ _.
      tested P (not (eqb (length a) (8 * n))) long
      (λ _. limit_holds _ _ n a P _ below (limit_holds _ _ n a P _ bits done)))

  pub unpack-holds : (p : List ℕ) (room : ℕ) → P (Err BufferTooShort) → P (Err WrongPackedLength) → P (Err SpareBit) → P done
      → P (unpack_asked n p room)
  unfolding packed_answer
  unpack-holds p room short long spare done =
      tested P (ltb room (8 * n)) short
      (λ _.
      tested P (not (eqb (length p) (packed_length n))) long
      (λ _. tested P (not (eqb (spare_bits n p) 0)) spare (λ _. done)))

done_other : Other (outcome_number done)
done_other = other_number 0 refl refl refl

-- For records of n bits, with a limit of l blocks.
module _ (l n : ℕ) where
  abbrev wires : ℕ
  wires = wire_count (Record n)

  pub pack_done : (a : List ℕ) (room : ℕ)
      → (pack_answer l n a room ≡ done)
      ↔ (Allows l n × ((packed_length wires ≤ room) × ((length a ≡ 8 * wires) × ((w : ℕ) → w < wires → entry a w < 2))))
  unfolding pack_answer
  pack_done a room =
      past-length l n _ done done_other
      (past _ (Err BufferTooShort) _ done (ltb-false room (packed_length wires), le-ltb room (packed_length wires)) (λ e. omega arith)
      (past _ (Err WrongLength) _ done (equal_iff (length a) (8 * wires)) (λ e. omega arith)
      (asked_done wires a)))

  pub unpack_done : (p : List ℕ) (room : ℕ)
      → (unpack_answer l n p room ≡ done)
      ↔ (Allows l n × ((8 * wires ≤ room) × ((length p ≡ packed_length wires) × ((spare_bits wires p ≡ 0) × (done ≡ done)))))
  unfolding unpack_answer
  unpack_done p room =
      past-length l n _ done done_other
      (past _ (Err BufferTooShort) _ done (ltb-false room (8 * wires), le-ltb room (8 * wires)) (λ e. omega arith)
      (packed_done wires p done))

  -- what is then left at the front of the buffer
  pub packs_done : (a out : List ℕ) → pack_answer l n a (length out) ≡ done → packs l n a out ≡ packed_bytes wires (entry a)
  packs_done a out e =
      ap (λ r. take (packed_length wires) (pack_left r n a out)) e
      ∙ take_at (packed_bytes wires (entry a)) (drop (packed_length wires) out) (packed_length wires) (length-packed wires (entry a))

  pub unpacks_done : (p out : List ℕ) → unpack_answer l n p (length out) ≡ done → unpacks l n p out ≡ unpacked_bytes wires p
  unfolding unpacked_bytes
  unpacks_done p out e = ap (λ r. take (8 * wires) (unpack_left r n p out)) e ∙ entries_front wires _ _

-- The check of packed bytes, and unpacking with our limit as the check does it.
module _ (n : ℕ) where
  abbrev our_wires : ℕ
  our_wires = wire_count (Record n)

  pub check_done : (d p : List ℕ)
      → (packed_check_answer n d p ≡ done)
      ↔ (Allows our_limit n
      × ((length p ≡ packed_length our_wires)
      × ((spare_bits our_wires p ≡ 0) × (check_answer our_limit n d (unpacked_bytes our_wires p) ≡ done))))
  unfolding packed_check_answer
  check_done d p = past-length our_limit n _ done done_other (packed_done our_wires p _)

  -- The check of packed bytes by way of unpacking them into a buffer that is long enough.
  module _ (d p : List ℕ) (room : ℕ) (fits : n ≤ most_bits → 8 * our_wires ≤ room) where
    -- a refusal of unpacking is the answer
    pub check-refused : (r : Refusal) → unpack_answer our_limit n p room ≡ Err r → packed_check_answer n d p ≡ Err r
    unfolding unpack_answer packed_check_answer
    check-refused r e =
        ours_length n _
        ∙ by_cases (dec_lt most_bits n) (λ above. simp (lt-ltb most_bits n above) (simp (lt-ltb most_bits n above) at (sym (ours_length n _) ∙ e)))
        (λ within.
        let range : n ≤ most_bits = omega arith in
        simp (le-ltb most_bits n range)
        ((asked-first our_wires p).stands r _
        (simp (le-ltb most_bits n range, le-ltb room (8 * our_wires) (fits range)) at (sym (ours_length n _) ∙ e))))

    -- else it is that of document 01's check
    pub check_unpacked : unpack_answer our_limit n p room ≡ done → packed_check_answer n d p ≡ check_answer our_limit n d (unpacked_bytes our_wires p)
    unfolding packed_check_answer
    check_unpacked e =
        let passed = (unpack_done our_limit n p room).0 e in
        length_passes our_limit n _ passed.0 ∙ (asked-first our_wires p).passed _ ((packed_done our_wires p done).1 passed.1.1)

  -- a wrong length is refused whatever the digest and the bytes are
  pub check-length : (d p : List ℕ) → n ≤ most_bits → (length p ≡ packed_length our_wires → ⊥)
      → packed_check_answer n d p ≡ Err WrongPackedLength
  unfolding packed_check_answer packed_answer
  check-length d p range wrong = ours_length n _ ∙ simp (le-ltb most_bits n range, ne_eqb _ _ wrong)

  -- .. but for a length of records that is out of range
  pub check_range : (d p : List ℕ) → most_bits < n → packed_check_answer n d p ≡ Err LengthOutOfRange
  unfolding packed_check_answer
  check_range d p above = ours_length n _ ∙ simp (lt-ltb most_bits n above)
