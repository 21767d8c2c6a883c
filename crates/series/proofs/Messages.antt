-- A block of a message: what it begins with, and its 512 bits. Where its message begins it begins with the start words, else with
-- the result of the block before, which has its wires by then. Bits before the end of the message's content are the circuit's; the
-- padding after them does not depend on the content, and its rows fix it.
use mathlib.Core.Logic.{◌↔◌}
use mathlib.Core.Path.{◌≡◌, subst, sym}
use Prim.Native.Nat.{ℕ, ◌+◌, ◌-◌, ◌*◌, ◌/◌, ◌%◌, ◌<◌}
use native.Mathlib.Omega.{arith}
use borrow.Author.Tests.{eqb-false, eqb-true, ltb-false, ltb-true}
use lib.Dec.{eqb, lit<, ltb}
use Rattle.block.proofs.exact.States.{CarriesState, carries-eight}
use Rattle.block.specs.BlockWires.{state_wires}
use Rattle.block.specs.Wires.{eight_from, result_at}
use Rattle.block.specs.declared.step.Step.TheVariants.{Message}
use Rattle.series.proofs.AllBlocks.{HasEarlier, block_result}
use Rattle.circuit.specs.Circuit.{begins, form_of, message_bit, message_form}
use Rattle.circuit.specs.Circuits.{content_form, message_of}
use Rattle.circuit.specs.Wires.{block_first, start_first}
use Rattle.circuit.specs.declared.circuits.Circuit.{Circuit}
use Rattle.circuit.specs.declared.message.MessageSpan.{MessageSpan}
use Rattle.encoding.proofs.Sequence.{each_iff}
use Rattle.encoding.specs.Sequence.{grid}
use Rattle.forms.proofs.exact.Runs.{Agree, Holds, Judged}
use Rattle.forms.proofs.exact.Words.{fixed_row}
use Rattle.forms.proofs.shape.All.{of_cond}
use Rattle.forms.specs.Rows.{Satisfied, row_of}
use Rattle.forms.specs.declared.form.Form.TheVariants.{Fixed}
use Rattle.sm3.proofs.Bounds.{Words, message_lt}
use Rattle.sm3.proofs.message.MessageBits.{message_content, message_padding}
use Rattle.sm3.specs.Message.{block_bits, message}
use Rattle.sm3.specs.Sm3.{block, start}
use Rattle.sm3.specs.declared.state.State.{State}

module _ (a : ℕ → ℕ) (J : Judged a) where
  -- what block i of the message m begins with
  pub begun : (B : ℕ → State) (b : ℕ → ℕ → ℕ) → Agree a start_first 256 (state_wires start) → (m : MessageSpan) (i : ℕ)
      → Words (B i) → (i ≡ m.begin → B i ≡ start) → ((i ≡ m.begin → ⊥) → (0 < i) × (B i ≡ block (b (i - 1)) (B (i - 1))))
      → HasEarlier a B b i → CarriesState a (begins m i) (B i)
  unfolding begins
  begun B b begin m i words first later earlier =
      of_cond (λ (w : ℕ). CarriesState a (eight_from w) (B i)) (eqb i m.begin)
      (λ t.
      carries-eight a J start_first (B i) words
      (subst (λ S. Agree a start_first 256 (state_wires S)) (sym (first (eqb-true i m.begin t))) begin))
      (λ t.
      let more = later (eqb-false i m.begin t) in
      carries-eight a J (block_first (i - 1) + result_at) (B i) words
      (subst (λ S. Agree a (block_first (i - 1) + result_at) 256 (state_wires S)) (sym more.1)
      (block_result a B b (i - 1) (earlier (i - 1) (omega (arith, more.0))))))

  -- the row of bit b of block i, which is one of the message m with the content r
  message-row : (C : Circuit) (m : MessageSpan) (r : ℕ → ℕ) (i b : ℕ)
      → (message_bit m i b < m.bits → (Satisfied a (row_of (content_form C i b)) ↔ (a (block_first i + b) ≡ r (message_bit m i b))))
      → (Satisfied a (row_of (message_form C m i b)) ↔ (a (block_first i + b) ≡ message m.bits r (message_bit m i b)))
  unfolding message_form
  message-row C m r i b content =
      let k : ℕ = message_bit m i b in
      let w : ℕ = block_first i + b in
      of_cond (λ f. Satisfied a (row_of f) ↔ (a w ≡ message m.bits r k)) (ltb k m.bits)
      (λ t.
      let below = ltb-true k m.bits t in
      subst (λ x. Satisfied a (row_of (content_form C i b)) ↔ (a w ≡ x)) (sym (message_content m.bits r k below)) (content below))
      (λ t.
      subst (λ x. Satisfied a (row_of (Fixed (record { 0 = w }) (message m.bits (λ i. 0) k))) ↔ (a w ≡ x))
      (message_padding m.bits (λ i. 0) r k (ltb-false k m.bits t))
      (fixed_row a J w (message m.bits (λ i. 0) k) (message_lt m.bits (λ i. 0) (λ i l. lit< tt) k)))

  -- the rows of the 512 bits of block i
  pub message-run : (C : Circuit) (i : ℕ) (r : ℕ → ℕ)
      → ((k : ℕ) → k < 512 → message_bit (message_of C i) i k < (message_of C i).bits
      → (Satisfied a (row_of (content_form C i k)) ↔ (a (block_first i + k) ≡ r (message_bit (message_of C i) i k))))
      → (Holds a 512 (grid 32 (form_of C i Message))
      ↔ Agree a (block_first i) 512 (block_bits (message (message_of C i).bits r) (i - (message_of C i).begin)))
  unfolding form_of grid block_bits
  message-run C i r content =
      each_iff 512 _ _
      (λ k l.
      let bit : 32 * (k / 32) + k % 32 ≡ k = omega arith in
      subst
      (λ (x : ℕ). Satisfied a (row_of (message_form C (message_of C i) i x))
      ↔ (a (block_first i + k) ≡ message (message_of C i).bits r (message_bit (message_of C i) i k)))
      (sym bit)
      (message-row C (message_of C i) r i k (content k l)))
