-- The rows of the block's bits hold, by `message_passed`, and after them those that its other wires make hold.
use Prim.Native.Nat.{◌+◌, ◌*◌}
use native.Mathlib.Omega.{arith}
use Rattle.block.specs.Steps.{block_rows}
use Rattle.circuit.proofs.place.PlaceRange.{few_blocks}
use Rattle.circuit.specs.Places.{state_rows}
use Rattle.circuit.specs.Wires.{wire_count}
use Rattle.agreement.proofs.Agreeing.{are_bits, words-at}
use Rattle.runs.proofs.Holding.{hold_none, hold_then}
use Rattle.runs.proofs.block_rows.BlockHolds.{message_passed}
use Rattle.runs.proofs.candidate.Candidate.rows_passed.Goals as goal

pub block_first-requires : goal.block_first-requires
block_first-requires c =
    let p = c.requires in omega (arith, few_blocks c.args.self.now.circuit c.args.self.now.allowed, p)

pub read_words-requires : goal.read_words-requires
unfolding wire_count
read_words-requires c =
    let p = c.requires in
    omega (arith, c.block_first.ensures.0, c.args.self.now.whole, p)

pub returns-in_default : goal.returns-in_default
returns-in_default c = (omega arith, hold_none _)

pub padding_agrees-requires : goal.padding_agrees-requires
unfolding wire_count
padding_agrees-requires c =
    let p = c.requires in
    (c.message_of-message.ensures.1, omega (arith, c.args.self.now.whole, p))

pub returns-then-not-padding_agrees : goal.returns-then-not-padding_agrees
returns-then-not-padding_agrees c = (omega arith, hold_none _)

pub content_holds-requires : goal.content_holds-requires
content_holds-requires c =
    let p = c.requires in
    let words = c.read_words.ensures _ c.in-Some.is in (
      p,
      c.message_of-message.ensures.0,
      c.message_of-message.ensures.1,
      record { each = are_bits (words-at c.block_first.ensures.0 words) },
    )

pub returns-then-not-content_holds : goal.returns-then-not-content_holds
returns-then-not-content_holds c = (omega arith, hold_none _)

pub computed_rows_passed-requires : goal.computed_rows_passed-requires
computed_rows_passed-requires c =
    let p = c.requires in
    let words = c.read_words.ensures _ c.in-Some.is in (
      p,
      words-at c.block_first.ensures.0 words,
    )

pub returns : goal.returns
returns c =
    let p = c.requires in
    let passed = c.computed_rows_passed.ensures in (
      omega (arith, passed.0),
      hold_then (state_rows + block_rows * c.args.i) 512 _
          (message_passed _ c.args.self.now.one c.args.self.now.below c.args.self.now.circuit c.args.i p _ c.message_of-message.ensures.0
          (c.padding_agrees.ensures c.if-not-padding_agrees.false)
          (c.content_holds.ensures c.if-not-content_holds.false))
          passed.1,
    )
