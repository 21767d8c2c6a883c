-- All rows hold exactly where all wires are those of the record that is read off. The start rows fix the start words. Each
-- block's message rows fix the padding and leave the record's bits free; its other rows are the block's, which begins with the
-- start words or with the results of the block before it. The digest rows copy the last results, and nothing is appended.
use mathlib.Core.Logic.Iff
use mathlib.Core.Logic.{◌↔◌}
use mathlib.Core.Path.{◌≡◌, ◌∙◌, ap, refl, subst, sym}
use Prim.Native.Nat.{ℕ, ◌+◌, ◌-◌, ◌*◌, ◌%◌, ◌<◌}
use native.Mathlib.Omega.{arith}
use Rattle.block.specs.BlockWires.{state_wires}
use Rattle.block.specs.MessageWires.{message_wires}
use Rattle.block.specs.Steps.{block_rows}
use Rattle.block.specs.Wires.{wires_per_block}
use Rattle.circuit.proofs.exact.Frame.{block_rows_of, digest-run, rows_apart, start-run, wires_apart}
use Rattle.series.proofs.Series.{series_blocks, series_message, series_result, series_run}
use Rattle.circuit.proofs.place.PlaceRange.{message-blocks}
use Rattle.circuit.specs.Circuit.{digest_form, form_at}
use Rattle.circuit.specs.Circuits.{appended_form, appended_rows}
use Rattle.circuit.specs.Places.{row_count}
use Rattle.series.specs.Series.{series_wires}
use Rattle.circuit.specs.Wires.{block_first, digest_first, first_block, start_first, wire_count}
use Rattle.circuit.specs.declared.circuits.Circuit.TheVariants.{Record}
use Rattle.encoding.proofs.Sequence.{each_same}
use Rattle.encoding.specs.Sequence.{grid}
use Rattle.forms.proofs.exact.Runs.{Agree, Holds, Judged, and_given}
use Rattle.forms.proofs.exact.Words.{bit-row}
use Rattle.limits.specs.Blocks.{blocks}
use Rattle.record.proofs.exact.Record.{read_off_lem, read_off, record_wire_lem, wires_congruent}
use Rattle.record.specs.Layout.{wire_of}
use Rattle.sm3.specs.Message.{digest_of, message}
use Rattle.sm3.specs.Sm3.{start}

-- the blocks of a record are a series of one message
series : (a : ℕ → ℕ) (n : ℕ) (r : ℕ → ℕ) → Agree a first_block (wires_per_block * blocks n) (series_wires (Record n) (λ i. r))
    ↔ Agree a first_block (wires_per_block * blocks n) (message_wires (message n r))
series a n r =
    each_same (λ k v. a (first_block + k) ≡ v) (wires_per_block * blocks n) (λ k. k) _ _
    (λ k l.
    let first : k ≡ wires_per_block * 0 + k = omega arith in
    ap (series_wires (Record n) (λ i. r)) first ∙ series_message (Record n) (λ i. r) (record { bits = n; begin = 0 }) r (λ i b e. (refl, refl)) k l)

module _ (a : ℕ → ℕ) (J : Judged a) (n : ℕ) where
  -- the message that is read off
  abbrev read : ℕ → ℕ
  read = message n (read_off a)

  blocks_hold : Agree a start_first 256 (state_wires start)
      → (Holds a (block_rows * blocks n) (grid block_rows (block_rows_of (Record n))) ↔ Agree a first_block (wires_per_block * blocks n) (message_wires read))
  blocks_hold begin =
      Iff.trans
      (series_run (Record n) (λ i. read_off a) a J begin (λ i l k h. omega arith)
      (λ i l later. record { begun = omega arith; message = refl; content = refl })
      (λ i l earlier k h inside.
      let bit : 512 * (i - 0) + k ≡ 512 * i + k = omega arith in
      let same : read_off a (512 * (i - 0) + k) ≡ a (block_first i + k) % 2 =
      ap (read_off a) bit ∙ ap (λ w. a w % 2) (record_wire_lem i k h) in
      Iff.trans (bit-row a J (block_first i + k)) (omega arith, omega arith)))
      (series a n (read_off a))

  digest_hold : Agree a first_block (wires_per_block * blocks n) (message_wires read)
      → (Holds a 256 (grid 32 (digest_form (block_first (blocks n - 1)))) ↔ Agree a digest_first 256 (state_wires (digest_of n (read_off a))))
  digest_hold e =
      digest-run a J (block_first (blocks n - 1)) (digest_of n (read_off a))
      (series_result (Record n) (λ i. read_off a) a J (blocks n - 1) (omega (arith, message-blocks n)) (omega (arith, message-blocks n))
      (λ i l. series_blocks (Record n) (λ i. read_off a) a J ((series a n (read_off a)).1 e) i (omega (arith, message-blocks n))))

-- all wires, of which none are appended
record_wires : (n : ℕ) (a r : ℕ → ℕ) → Agree a 0 (wire_count (Record n)) (wire_of n r)
    ↔ (Agree a 0 1 (λ k. 1)
    × (Agree a digest_first 256 (state_wires (digest_of n r))
    × (Agree a start_first 256 (state_wires start) × Agree a first_block (wires_per_block * blocks n) (message_wires (message n r)))))
unfolding wire_of wire_count
record_wires n a r =
    let all : first_block + wires_per_block * blocks n ≡ wire_count (Record n) = omega arith in
    subst
    (λ m. Agree a 0 m (wire_of n r)
    ↔ (Agree a 0 1 (λ k. 1)
    × (Agree a digest_first 256 (state_wires (digest_of n r))
    × (Agree a start_first 256 (state_wires start) × Agree a first_block (wires_per_block * blocks n) (message_wires (message n r))))))
    all
    (wires_apart a (wires_per_block * blocks n) (digest_of n r) (message_wires (message n r)))

pub circuit : (n : ℕ) (a : ℕ → ℕ) → Judged a → (Holds a (row_count (Record n)) (form_at (Record n)) ↔ Agree a 0 (wire_count (Record n)) (wire_of n (read_off a)))
circuit n a J =
    let one : Agree a 0 1 (λ k. 1) = λ k l. let first : 0 + k ≡ 0 = omega arith in ap a first ∙ J.one in
    let none : Holds a (appended_rows (Record n)) (appended_form (Record n)) = λ k l. absurd (omega arith) in
    Iff.trans (rows_apart (Record n) (message-blocks n) a)
    (Iff.trans
    (and_given (start-run a J)
    (λ s. and_given (blocks_hold a J n s) (λ e. and_given (digest_hold a J n e) (λ d. (λ h. h, λ h. h)))))
    (Iff.trans (λ h. (one, (h.1.1.0, (h.0, h.1.0))), λ h. (h.1.1.0, (h.1.1.1, (h.1.0, none))))
    (Iff.symm (record_wires n a (read_off a)))))

-- .. and so exactly where they are those of some record
pub some_record : (n : ℕ) (a : ℕ → ℕ) → Judged a
    → (Holds a (row_count (Record n)) (form_at (Record n)) ↔ ((r : ℕ → ℕ) × ((k : ℕ) → k < n → r k < 2) × Agree a 0 (wire_count (Record n)) (wire_of n r)))
some_record n a J = (
  λ h. (read_off a, λ k l. omega arith, (circuit n a J).0 h),
  λ (r, bits, agree).
      (circuit n a J).1
      (subst (Agree a 0 (wire_count (Record n))) (wires_congruent n r (read_off a) (λ k l. sym (read_off_lem n a r bits agree k l))) agree),
)
