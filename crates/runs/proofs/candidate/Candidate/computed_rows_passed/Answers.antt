-- The words that are read off the block's bits are its first words, so the expansion that is computed from them is the block's; and up to
-- the first wires that do not agree, the rows hold by `BlockHolds`.
use mathlib.Core.List.{List}
use Rattle.std.proofs.lemmas.List.{take_all}
use mathlib.Core.Path.{◌≡◌, ◌∙◌, ap, subst, subst₂, sym}
use Prim.Native.Nat.{ℕ, ◌+◌, ◌*◌, ◌<◌, ◌≤◌}
use native.Mathlib.Omega.{arith}
use lib.Dec.{lit≤}
use lib.ListN.{length, take}
use Rattle.assignment.specs.Assignment.{entry}
use Rattle.assignment.specs.Bounded.{BelowPrime}
use Rattle.block.specs.BlockWires.{expansion_wires}
use Rattle.block.specs.Steps.{block_rows}
use Rattle.block.specs.Wires.{expansion_at, expansion_width, wires_per_block}
use Rattle.circuit.proofs.place.PlaceRange.{few_blocks}
use Rattle.circuit.specs.Circuit.{begins_at}
use Rattle.circuit.specs.Circuits.{block_count, message_of}
use Rattle.circuit.specs.Places.{state_rows}
use Rattle.circuit.specs.Wires.{block_first, wire_count}
use Rattle.circuit.specs.declared.circuits.Circuit.{Circuit}
use Rattle.circuit.specs.declared.message.MessageSpan.{MessageSpan}
use Rattle.encoding.specs.Sequence.{grid}
use Rattle.agreement.proofs.Agreeing.{are_bits, first-words}
use Rattle.runs.proofs.Holding.{hold_none}
use Rattle.runs.proofs.block_rows.BlockHolds.{past-expansion, past_few, words_passed}
use Rattle.agreement.specs.Agrees.{Agrees, BitsOfState, BitsOfWords, PastExpansion}
use Rattle.runs.specs.RowsHold.{RowsHold}
use Rattle.sm3.specs.Sm3.{expansion}
use Rattle.sm3.specs.declared.state.State.{State}
use Rattle.runs.proofs.candidate.Candidate.computed_rows_passed.Goals as goal

-- Block i with the first wire F, whose bits are the sixteen words, and which begins with the words v that stand from wire b on.
module _ {bytes words : List ℕ} {F b : ℕ} {v : State} (C : Circuit) (i : ℕ) (one : entry bytes 0 ≡ 1) (below : BelowPrime bytes)
    (l : i < block_count C) (at : F ≡ block_first i) (from : b ≡ begins_at (message_of C i) i) (full : 16 ≡ length words)
    (read : BitsOfWords (block_first i) 16 words bytes) (state : BitsOfState b v bytes) where
  abbrev bits : ℕ → ℕ
  bits k = entry bytes (block_first i + k)

  first_sixteen : (x : List ℕ) → take 16 x ≡ words → take 16 x ≡ expansion bits 16
  first_sixteen x front = front ∙ sym (take_all 16 words (omega arith)) ∙ first-words 16 (lit≤ tt) (omega arith) read

  begun : BitsOfState (begins_at (message_of C i) i) v bytes
  begun = subst (λ w. BitsOfState w v bytes) from state

  -- c words of the expansion agree
  module _ {c : ℕ} (few : c ≤ 52)
      (expanded : Agrees (F + expansion_at) (c * expansion_width) (grid expansion_width (λ j. expansion_wires (expansion bits 68) (16 + j))) bytes) where
    moved : Agrees (block_first i + expansion_at) (c * expansion_width) (grid expansion_width (λ j. expansion_wires (expansion bits 68) (16 + j))) bytes
    moved = subst (λ w. Agrees (w + expansion_at) (c * expansion_width) (grid expansion_width (λ j. expansion_wires (expansion bits 68) (16 + j))) bytes) at expanded

    words_hold : RowsHold C (state_rows + block_rows * i + 512) (192 * c) bytes
    words_hold = words_passed bytes one below C i l (are_bits read) v begun c few moved

    -- all do, and so far what follows
    past_hold : c ≡ 52 → {x : List ℕ} → x ≡ expansion bits 68 → {r : ℕ} → PastExpansion F x v bytes r
        → RowsHold C (state_rows + block_rows * i + 512) (9984 + r) bytes
    past_hold all words {r} past =
        past-expansion bytes one below C i l (are_bits read) v begun (rw all at moved)
        (subst₂ (λ F x. PastExpansion F x v bytes r) at words past)

-- where block i begins, its wires are those of the assignment
wires_within : (C : Circuit) (i F : ℕ) (bytes : List ℕ) → i < block_count C → F ≡ block_first i → length bytes ≡ 8 * wire_count C
    → 8 * (F + wires_per_block) ≤ length bytes
unfolding wire_count
wires_within C i F bytes l at size = omega arith

pub block_first-first-requires : goal.block_first-first-requires
block_first-first-requires c =
    omega (arith, few_blocks c.args.self.now.circuit c.args.self.now.allowed, c.requires.0)

pub read_state-requires : goal.read_state-requires
unfolding wire_count
read_state-requires c =
    let p = c.requires in omega (arith, c.beginning-begin.ensures.1, c.args.self.now.whole, p.0)

pub returns-in_default : goal.returns-in_default
returns-in_default c = (omega arith, hold_none _)

pub expanded_words_agree-expanded-requires : goal.expanded_words_agree-expanded-requires
expanded_words_agree-expanded-requires c =
    let a = c.args in
    (omega arith, omega (arith, wires_within a.self.now.circuit a.i _ a.self.now.assignment.now c.requires.0 c.block_first-first.ensures.0 c.args.self.now.whole))

pub returns-then-expanded-lt52 : goal.returns-then-expanded-lt52
returns-then-expanded-lt52 c =
    let p = c.requires in
    let a = c.args in
    let from = c.beginning-begin.ensures.0 ∙ ap (λ (m : MessageSpan). begins_at m a.i) c.message_of.ensures.0 in
    let state = c.read_state.ensures _ c.in-Some.is in
    let at = c.block_first-first.ensures.0 in
    let told = c.expanded_words_agree-expanded.ensures in (
      omega (arith, told.0),
      words_hold a.self.now.circuit a.i a.self.now.one a.self.now.below p.0 at from (omega arith) p.1 state told.0
          (told.1 _ (first_sixteen a.self.now.circuit a.i a.self.now.one a.self.now.below p.0 at from (omega arith) p.1 state _ c.with_room-x.ensures)).1,
    )

pub rows_past_expansion-requires : goal.rows_past_expansion-requires
rows_past_expansion-requires c =
    let a = c.args in
    wires_within a.self.now.circuit a.i _ a.self.now.assignment.now c.requires.0 c.block_first-first.ensures.0 c.args.self.now.whole

pub overflow_add-result : goal.overflow_add-result
overflow_add-result c = omega (arith, past_few c.rows_past_expansion.ensures)

pub returns : goal.returns
returns c =
    let p = c.requires in
    let a = c.args in
    let from = c.beginning-begin.ensures.0 ∙ ap (λ (m : MessageSpan). begins_at m a.i) c.message_of.ensures.0 in
    let state = c.read_state.ensures _ c.in-Some.is in
    let at = c.block_first-first.ensures.0 in
    let told = c.expanded_words_agree-expanded.ensures in
    let words = told.1 _ (first_sixteen a.self.now.circuit a.i a.self.now.one a.self.now.below p.0 at from (omega arith) p.1 state _ c.with_room-x.ensures) in
    let all : c.expanded_words_agree-expanded.result ≡ 52 = omega (arith, told.0, c.if-expanded-lt52.false) in
    let past = c.rows_past_expansion.ensures in
    (omega (arith, past_few past), past_hold a.self.now.circuit a.i a.self.now.one a.self.now.below p.0 at from (omega arith) p.1 state told.0 words.1 all (words.0 all) past)
