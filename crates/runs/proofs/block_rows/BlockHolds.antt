-- Where a block's wires are what its 512 bits and the words that it begins with give, up to some word or round, its rows up to there hold,
-- by the block's theorem. The rows of its bits hold where the padding among them is the message's and the content's rows hold.
use mathlib.Core.List.{List}
use mathlib.Core.Path.{◌≡◌, ◌∙◌, ap, refl, subst, sym}
use Prim.Native.Nat.{ℕ, ◌+◌, ◌-◌, ◌*◌, ◌/◌, ◌%◌, ◌<◌, ◌≤◌, ◌^◌}
use native.Mathlib.Omega.{arith}
use borrow.Author.Tests.{ltb-false, ltb-true}
use lib.Dec.{lit<, lit≤, ltb}
use Rattle.assignment.specs.Assignment.{entry}
use Rattle.assignment.specs.Bounded.{BelowPrime}
use Rattle.block.proofs.exact.Block.{block_run, block_forms, expanded_hold, w_primes_hold, rounds_hold}
use Rattle.block.proofs.exact.BlockRounds.{rows_before_round_le}
use Rattle.block.proofs.exact.States.{CarriesState, carries-eight}
use Rattle.block.specs.BlockWires.{computed_wires, expansion_wires, state_wires}
use Rattle.block.specs.Steps.{block_rows, computed_rows, rows_before_round}
use Rattle.block.specs.Wires.{expansion_at, expansion_width, w_primes_at, result_at, rounds_at}
use Rattle.block.specs.declared.step.Step.TheVariants.{Message}
use Rattle.circuit.proofs.exact.Frame.{block_row}
use Rattle.circuit.specs.Circuit.{begins, begins_at, form_of, message_bit, message_form, row_at}
use Rattle.circuit.specs.Circuits.{block_count, message_of}
use Rattle.circuit.specs.Places.{state_rows}
use Rattle.circuit.specs.Wires.{block_first}
use Rattle.circuit.specs.declared.circuits.Circuit.{Circuit}
use Rattle.circuit.specs.declared.message.MessageSpan.{MessageSpan}
use Rattle.encoding.proofs.Sequence.{beside_first, beside_then}
use Rattle.encoding.specs.Sequence.{beside, grid}
use Rattle.forms.proofs.exact.Runs.{Holds, Judged}
use Rattle.forms.proofs.exact.Words.{fixed_row}
use Rattle.forms.proofs.shape.All.{of_cond}
use Rattle.forms.specs.Rows.{Satisfied, row_of}
use Rattle.forms.specs.WordWires.{word_wires}
use Rattle.forms.specs.declared.form.Form.{Form}
use Rattle.agreement.proofs.Agreeing.{agrees_rows, agrees_then, bits_agree, bits_lt}
use Rattle.runs.proofs.Judging.{judged_bytes}
use Rattle.agreement.specs.Agrees.{Agrees, BitsOfState, PastExpansion, to_end, to_round, to_word}
use Rattle.runs.specs.MessageRows.{ContentHolds, Padded}
use Rattle.runs.specs.RowsHold.{RowsHold}
use Rattle.sm3.proofs.Bounds.{Words, message_lt}
use Rattle.sm3.specs.Message.{message}
use Rattle.sm3.specs.Sm3.{block, expansion, word_of}
use Rattle.sm3.specs.declared.state.State.{State}

state_words : (s : State) → ((k : ℕ) → k < 8 → word_of s k < 2 ^ 32) → Words s
unfolding word_of
state_words s h =
    record {
      a = h 0 (lit< tt);
      b = h 1 (lit< tt);
      c = h 2 (lit< tt);
      d = h 3 (lit< tt);
      e = h 4 (lit< tt);
      f = h 5 (lit< tt);
      g = h 6 (lit< tt);
      h = h 7 (lit< tt);
    }

-- past its expansion a block has 21,824 rows
pub past_few : {F : ℕ} {x bytes : List ℕ} {v : State} {r : ℕ} → PastExpansion F x v bytes r → r ≤ 21824
past_few (to_word c few primed e) = omega arith
past_few (to_round c few primed rounded e) = omega (arith, rows_before_round_le c few)
past_few (to_end primed rounded result e) = omega arith

module _ (bytes : List ℕ) (one : entry bytes 0 ≡ 1) (below : BelowPrime bytes) (C : Circuit) (i : ℕ) (l : i < block_count C) where
  judged : Judged (entry bytes)
  judged = judged_bytes one below

  abbrev F : ℕ
  F = block_first i

  abbrev first : ℕ
  first = state_rows + block_rows * i

  -- the n rows of the block from its row m on have the forms f, and these hold
  rows_passed : (m n : ℕ) (f : ℕ → Form) → m + n ≤ block_rows
      → ((k : ℕ) → k < n → beside 512 (grid 32 (form_of C i Message)) (block_forms F (begins (message_of C i) i)) (m + k) ≡ f k)
      → Holds (entry bytes) n f → RowsHold C (first + m) n bytes
  unfolding row_at
  rows_passed m n f room forms holds =
      record {
        each =
            λ j h b.
            let k : ℕ = j - (first + m) in
            let row : 256 + (block_rows * i + (m + k)) ≡ j = omega arith in
            subst (λ r. Satisfied (entry bytes) (row_at C r)) row
            (subst (λ f. Satisfied (entry bytes) (row_of f)) (sym (block_row C i (m + k) l (omega arith) ∙ forms k (omega arith))) (holds k (omega arith)));
      }

  pub message_passed : (m : MessageSpan) → m ≡ message_of C i → Padded m i bytes → ContentHolds C m i bytes
      → RowsHold C first 512 bytes
  unfolding grid form_of message_form
  message_passed m same padded content =
      let none : first + 0 ≡ first = omega arith in
      let row : (b : ℕ) → b < 512 → Satisfied (entry bytes) (row_of (message_form C m i b)) =
      λ b h.
      of_cond (λ f. Satisfied (entry bytes) (row_of f)) (ltb (message_bit m i b) m.bits) (λ t. content.each b h (ltb-true _ _ t))
      (λ t.
      (fixed_row (entry bytes) judged (F + b) (message m.bits (λ i. 0) (message_bit m i b))
      (message_lt m.bits (λ i. 0) (λ i l. lit< tt) (message_bit m i b))).1
      (padded.each b h (ltb-false _ _ t))) in
      subst (λ k. RowsHold C k 512 bytes) none
      (rows_passed 0 512 (grid 32 (form_of C i Message)) (lit≤ tt)
      (λ k h. let place : 0 + k ≡ k = omega arith in ap (beside 512 _ _) place ∙ beside_first 512 _ _ k h)
      (λ k h.
      let bit : 32 * (k / 32) + k % 32 ≡ k = omega arith in
      subst (λ (b : ℕ). Satisfied (entry bytes) (row_of (message_form C (message_of C i) i b))) (sym bit)
      (subst (λ (m : MessageSpan). Satisfied (entry bytes) (row_of (message_form C m i k))) same (row k h))))

  module _ (bits : (k : ℕ) → k < 512 → entry bytes (F + k) < 2) where
    module _ (v : State) (begun : BitsOfState (begins_at (message_of C i) i) v bytes) where
      abbrev words : List ℕ
      words = expansion (λ k. entry bytes (F + k)) 68

      carried : CarriesState (entry bytes) (begins (message_of C i) i) v
      unfolding begins state_wires
      carried =
          carries-eight (entry bytes) judged (begins_at (message_of C i) i) v (state_words v (λ k h. bits_lt (begun.each k h)))
          (agrees_rows 8 (λ k. word_wires (word_of v k)) (λ k h. bits_agree (begun.each k h))).entries

      -- the first n rows past those of the bits
      computed_passed : (n : ℕ) → n ≤ computed_rows → Holds (entry bytes) n (block_forms F (begins (message_of C i) i))
          → RowsHold C (first + 512) n bytes
      computed_passed n room = rows_passed 512 n _ (omega arith) (λ k h. beside_then 512 _ _ k)

      -- those of the first c words of the expansion
      pub words_passed : (c : ℕ) → c ≤ 52
          → Agrees (F + expansion_at) (c * expansion_width) (grid expansion_width (λ j. expansion_wires words (16 + j))) bytes
          → RowsHold C (first + 512) (192 * c) bytes
      words_passed c few agrees =
          computed_passed (192 * c) (omega arith)
          (expanded_hold (entry bytes) judged F _ v carried _ bits (λ k h. refl) c few agrees.entries)

      -- .. of the whole expansion, and of those past it as far as the wires agree
      module _ (expanded : Agrees (F + expansion_at) (52 * expansion_width) (grid expansion_width (λ j. expansion_wires words (16 + j))) bytes) where
        rows_hold : (n r : ℕ) → n ≡ 9984 + r → Holds (entry bytes) n (block_forms F (begins (message_of C i) i)) → r ≤ 21824
            → RowsHold C (first + 512) (9984 + r) bytes
        rows_hold n r e holds room =
            subst (λ n. RowsHold C (first + 512) n bytes) e (computed_passed n (omega arith) holds)

        pub past-expansion : {r : ℕ} → PastExpansion F words v bytes r
            → RowsHold C (first + 512) (9984 + r) bytes
        unfolding block computed_wires
        past-expansion {r} (to_word c few primed e) =
            rows_hold (9984 + c * 32) r (omega arith)
            (w_primes_hold (entry bytes) judged F _ v carried _ bits (λ k h. refl) expanded.entries c few primed.entries)
            (past_few {v = v} (to_word c few primed e))
        past-expansion {r} (to_round c few primed rounded e) =
            rows_hold (9984 + 2048 + rows_before_round c) r (omega arith)
            (rounds_hold (entry bytes) judged F _ v carried _ bits (λ k h. refl) expanded.entries primed.entries c few rounded.entries)
            (past_few {v = v} (to_round c few primed rounded e))
        past-expansion {r} (to_end primed rounded result e) =
            rows_hold computed_rows r (omega arith)
            ((block_run (entry bytes) judged F _ v carried _ bits (λ k h. refl)).1
            (agrees_then (F + w_primes_at) (omega arith) expanded
            (agrees_then (F + rounds_at) (omega arith) primed (agrees_then (F + result_at) (omega arith) rounded result))).entries)
            (past_few {v = v} (to_end primed rounded result e))
