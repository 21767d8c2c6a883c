-- A circuit's blocks as a series of padded messages: block i is one of the message `message_of C i`, whose content is r i. Where the content's
-- rows hold exactly where the content stands on its wires, each given the blocks before it, all rows of the blocks hold exactly where all
-- their wires are the messages'.
use mathlib.Core.Logic.{◌↔◌}
use mathlib.Core.Path.{◌≡◌, ◌∙◌, ap, ap₂, subst, sym}
use Prim.Native.Nat.{ℕ, zero, suc, ◌+◌, ◌-◌, ◌*◌, ◌/◌, ◌%◌, ◌<◌, ◌≤◌}
use native.Mathlib.Omega.{arith}
use Rattle.block.specs.BlockWires.{block_wires, state_wires}
use Rattle.block.specs.MessageWires.{message_wires}
use Rattle.block.specs.Steps.{block_rows}
use Rattle.block.specs.Wires.{result_at, wires_per_block}
use Rattle.block.specs.declared.step.Step.TheVariants.{Message}
use Rattle.series.proofs.AllBlocks.{HasEarlier, block_of, block_result, blocks-run}
use Rattle.circuit.proofs.exact.Frame.{block_rows_of}
use Rattle.series.proofs.Messages.{begun, message-run}
use Rattle.circuit.specs.Circuit.{begins, form_of, message_bit}
use Rattle.circuit.specs.Circuits.{block_count, content_form, message_of}
use Rattle.series.specs.Series.{series_begins, series_bits, series_wires}
use Rattle.circuit.specs.Wires.{block_first, first_block, start_first}
use Rattle.circuit.specs.declared.circuits.Circuit.{Circuit}
use Rattle.circuit.specs.declared.message.MessageSpan.{MessageSpan}
use Rattle.encoding.proofs.Sequence.{grid-at}
use Rattle.encoding.specs.Sequence.{grid}
use Rattle.forms.proofs.exact.Runs.{Agree, Holds, Judged}
use Rattle.forms.specs.Rows.{Satisfied, row_of}
use Rattle.limits.specs.Blocks.{blocks}
use Rattle.sm3.proofs.Bounds.{chaining_words, message_lt}
use Rattle.sm3.specs.Message.{block_bits, chaining_value, digest_of, message}
use Rattle.sm3.specs.Sm3.{block, start}
use Rattle.sm3.specs.declared.state.State.{State}

-- each block of a message but its first begins with what the one before it gives
chained : (m : ℕ → ℕ) (i : ℕ) → 0 < i → chaining_value m i ≡ block (block_bits m (i - 1)) (chaining_value m (i - 1))
unfolding chaining_value
chained m zero l = absurd (omega arith)
chained m (suc i) l =
    let before : suc i - 1 ≡ i = omega arith in
    ap (λ (j : ℕ). block (block_bits m j) (chaining_value m j)) (sym before)

none_before : (m : ℕ → ℕ) (i : ℕ) → i ≡ 0 → chaining_value m i ≡ start
unfolding chaining_value
none_before m i e = ap (chaining_value m) e

-- a block that is not the first of its message, and the block before it, are of one message with one content
pub record Continues (C : Circuit) (r : ℕ → ℕ → ℕ) (i : ℕ) : Type 0 where
  pub begun : (message_of C i).begin < i
  pub message : message_of C (i - 1) ≡ message_of C i
  pub content : r (i - 1) ≡ r i

module _ (C : Circuit) (r : ℕ → ℕ → ℕ) (a : ℕ → ℕ) (J : Judged a) where
  abbrev c : ℕ
  c = block_count C

  abbrev B : ℕ → State
  B = series_begins C r

  abbrev b : ℕ → ℕ → ℕ
  b = series_bits C r

  -- the block before, where the message goes on
  earlier_block : (i : ℕ) → Continues C r i → B i ≡ block (b (i - 1)) (B (i - 1))
  unfolding series_begins series_bits
  earlier_block i goes =
      let m : MessageSpan = message_of C i in
      let n : ℕ = i - m.begin in
      let place : n - 1 ≡ i - 1 - m.begin = omega (arith, goes.begun) in
      chained (message m.bits (r i)) n (omega (arith, goes.begun))
      ∙ ap (λ (j : ℕ). block (block_bits (message m.bits (r i)) j) (chaining_value (message m.bits (r i)) j)) place
      ∙ ap₂
      (λ (m : MessageSpan) (s : ℕ → ℕ). block (block_bits (message m.bits s) (i - 1 - m.begin)) (chaining_value (message m.bits s) (i - 1 - m.begin)))
      (sym goes.message) (sym goes.content)

  pub series_run : Agree a start_first 256 (state_wires start)
      → ((i : ℕ) → i < c → (k : ℕ) → k < (message_of C i).bits → r i k < 2)
      → ((i : ℕ) → i < c → (i ≡ (message_of C i).begin → ⊥) → Continues C r i)
      → ((i : ℕ) → i < c → HasEarlier a B b i → (k : ℕ) → k < 512 → message_bit (message_of C i) i k < (message_of C i).bits
      → (Satisfied a (row_of (content_form C i k)) ↔ (a (block_first i + k) ≡ r i (message_bit (message_of C i) i k))))
      → (Holds a (block_rows * c) (grid block_rows (block_rows_of C)) ↔ Agree a first_block (wires_per_block * c) (series_wires C r))
  unfolding series_wires series_begins series_bits block_bits
  series_run begin bits goes content =
      blocks-run a B b J (λ i. begins (message_of C i) i) (λ i. grid 32 (form_of C i Message)) c
      (λ i l k h. message_lt (message_of C i).bits (r i) (bits i l) (512 * (i - (message_of C i).begin) + k))
      (λ i l earlier.
      begun a J B b begin (message_of C i) i (chaining_words _ _)
      (λ e. none_before (message (message_of C i).bits (r i)) (i - (message_of C i).begin) (omega arith))
      (λ later. let more = goes i l later in (omega (arith, more.begun), earlier_block i more))
      earlier)
      (λ i l earlier. message-run a J C i (r i) (content i l earlier))

  -- the result of a message's last block is its digest
  pub series_result : (i : ℕ) → i < c → suc (i - (message_of C i).begin) ≡ blocks (message_of C i).bits → HasEarlier a B b (suc i)
      → Agree a (block_first i + result_at) 256 (state_wires (digest_of (message_of C i).bits (r i)))
  unfolding series_begins series_bits digest_of chaining_value
  series_result i l last earlier =
      subst (λ (n : ℕ). Agree a (block_first i + result_at) 256 (state_wires (chaining_value (message (message_of C i).bits (r i)) n))) last
      (block_result a B b i (earlier i (omega arith)))

  -- all blocks have their wires
  pub series_blocks : Agree a first_block (wires_per_block * c) (series_wires C r) → HasEarlier a B b c
  unfolding series_wires
  series_blocks agree = block_of a B b c agree

-- where the blocks of the message m have the content s, their wires are the message's
pub series_message : (C : Circuit) (r : ℕ → ℕ → ℕ) (m : MessageSpan) (s : ℕ → ℕ)
    → ((i : ℕ) → m.begin ≤ i → i < m.begin + blocks m.bits → (message_of C i ≡ m) × (r i ≡ s))
    → (k : ℕ) → k < wires_per_block * blocks m.bits → series_wires C r (wires_per_block * m.begin + k) ≡ message_wires (message m.bits s) k
unfolding series_wires series_bits series_begins message_wires
series_message C r m s same k l =
    let i : ℕ = k / wires_per_block in
    let j : ℕ = k % wires_per_block in
    let place : wires_per_block * m.begin + k ≡ wires_per_block * (m.begin + i) + j = omega arith in
    let whole : wires_per_block * i + j ≡ k = omega arith in
    let past : m.begin + i - m.begin ≡ i = omega arith in
    let at = same (m.begin + i) (omega arith) (omega arith) in
    ap (series_wires C r) place
    ∙ grid-at wires_per_block _ (m.begin + i) j (omega arith)
    ∙ ap₂
    (λ (m' : MessageSpan) (t : ℕ → ℕ).
    block_wires (block_bits (message m'.bits t) (m.begin + i - m'.begin)) (chaining_value (message m'.bits t) (m.begin + i - m'.begin)) j)
    at.0 at.1
    ∙ ap (λ (x : ℕ). block_wires (block_bits (message m.bits s) x) (chaining_value (message m.bits s) x) j) past
    ∙ sym (grid-at wires_per_block _ i j (omega arith))
    ∙ ap (message_wires (message m.bits s)) whole
