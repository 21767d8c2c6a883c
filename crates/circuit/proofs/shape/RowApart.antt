-- Every row joins wires that are apart from each other and from wire 0, step by step.
use mathlib.Core.Path.{◌≡◌}
use Prim.Native.Nat.{ℕ, ◌+◌, ◌-◌, ◌*◌, ◌<◌, ◌≤◌}
use native.Mathlib.Omega.{arith}
use borrow.Author.Tests.{eqb-false, ltb-true}
use lib.Dec.{eqb, ltb}
use Rattle.block.proofs.shape.BlockApart.{ff_apart, gg_apart, p0_apart, p1_apart, q_apart, result_apart, ss2_apart, tt1_apart, tt2_apart, u_apart, w_prime_apart, w_apart}
use Rattle.block.specs.Ranges.{InStep}
use Rattle.block.specs.Steps.{place}
use Rattle.block.specs.Wires.{wires_per_block}
use Rattle.block.specs.declared.step.Step.TheVariants.{Start, Message, Q, P1, W, WPrime, U, Ss2, Ff, Gg, Tt1, Tt2, P0, Result, Digest, Appended}
use Rattle.block.specs.declared.step.Step.{Step}
use Rattle.circuit.proofs.place.PlaceRange.{in_circuit, some_blocks}
use Rattle.circuit.proofs.shape.AxlesApart.{axle_apart}
use Rattle.circuit.specs.Circuit.{begins, begins_at, digest_form, form_at, form_of, message_bit, message_form, start_form}
use Rattle.circuit.specs.Circuits.{appended_form, appended_rows, block_count, content_form, message_of}
use Rattle.circuit.specs.Places.{place_at, row_count}
use Rattle.circuit.specs.Ranges.{Allowed, InCircuit}
use Rattle.circuit.specs.Wires.{block_first, wire_count}
use Rattle.circuit.specs.declared.circuits.Circuit.TheVariants.{Record, Axles}
use Rattle.circuit.specs.declared.circuits.Circuit.{Circuit}
use Rattle.circuit.specs.declared.message.MessageSpan.{MessageSpan}
use Rattle.forms.proofs.shape.All.{of_cond}
use Rattle.forms.proofs.shape.Apart.{Apart}
use Rattle.sm3.proofs.Bounds.{message_lt}
use Rattle.sm3.specs.Words.{bit}

-- the words that a block of a message begins with stand before it
begins-before : (m : MessageSpan) (i : ℕ) → m.begin ≤ i → (1 ≤ begins_at m i) × (begins_at m i + 256 ≤ block_first i)
begins-before m i h =
    of_cond (λ w. (1 ≤ w) × (w + 256 ≤ block_first i)) (eqb i m.begin) (λ t. omega arith)
    (λ t.
    let later : m.begin < i = lower (eqb-false i m.begin t) in
    omega arith)
  where
    lower : (i ≡ m.begin → ⊥) → m.begin < i
    lower n = omega arith

-- a message begins no later than its blocks
begin-before : (C : Circuit) (i : ℕ) → (message_of C i).begin ≤ i
begin-before (Record n) i = omega arith
begin-before (Axles lower upper) i = omega arith

pub content_apart : (C : Circuit) → Allowed C → (i b : ℕ) → i < block_count C → b < 512 → message_bit (message_of C i) i b < (message_of C i).bits
    → Apart (wire_count C) (content_form C i b)
unfolding wire_count
content_apart (Record n) h i b l k inside = omega arith
content_apart (Axles lower upper) h i b l k inside = omega arith

pub appended_apart : (C : Circuit) → Allowed C → (k : ℕ) → k < appended_rows C → Apart (wire_count C) (appended_form C k)
appended_apart (Record n) h k l = absurd (omega arith)
appended_apart (Axles lower upper) h k l = axle_apart lower upper h k l

module _ (C : Circuit) (allowed : Allowed C) where
  start_apart : (j l : ℕ) → InStep 0 Start j l → Apart (wire_count C) (start_form j l)
  unfolding start_form wire_count bit
  start_apart j l h = omega arith

  digest_apart : (j l : ℕ) → InStep 0 Digest j l → Apart (wire_count C) (digest_form (block_first (block_count C - 1)) j l)
  unfolding digest_form wire_count
  digest_apart j l h = omega (arith, some_blocks C allowed)

  module _ (i : ℕ) (h : i < block_count C) where
    low : 1 ≤ begins_at (message_of C i) i
    low = (begins-before (message_of C i) i (begin-before C i)).0

    lies : begins_at (message_of C i) i + 256 ≤ block_first i
    lies = (begins-before (message_of C i) i (begin-before C i)).1

    last : block_first i + wires_per_block ≤ wire_count C
    unfolding wire_count
    last = omega arith

    message_apart : (b : ℕ) → b < 512 → Apart (wire_count C) (message_form C (message_of C i) i b)
    unfolding message_form
    message_apart b g =
        let m : MessageSpan = message_of C i in
        of_cond (Apart (wire_count C)) (ltb (message_bit m i b) m.bits) (λ t. content_apart C allowed i b h g (ltb-true _ _ t))
        (λ t. omega (arith, last, message_lt m.bits (λ i. 0) (λ k h. omega arith) (message_bit m i b)))

    form_apart : (s : Step) (j l : ℕ) → InStep (appended_rows C) s j l → Apart (wire_count C) (form_of C i s j l)
    unfolding form_of begins
    form_apart Start j l g = start_apart j l g
    form_apart Message j l g = message_apart (32 * j + l) (omega arith)
    form_apart Q j l g = q_apart _ _ _ low lies last j l g
    form_apart P1 j l g = p1_apart _ _ _ low lies last j l g
    form_apart W j l g = w_apart _ _ _ low lies last j l g
    form_apart WPrime j l g = w_prime_apart _ _ _ low lies last j l g
    form_apart U j l g = u_apart _ _ _ low lies last j g.1 l
    form_apart Ss2 j l g = ss2_apart _ _ _ low lies last j g.1 l g.2
    form_apart Ff j l g = ff_apart _ _ _ low lies last j g.1 l g.2
    form_apart Gg j l g = gg_apart _ _ _ low lies last j g.1 l g.2
    form_apart Tt1 j l g = tt1_apart _ _ _ low lies last j g.1 l
    form_apart Tt2 j l g = tt2_apart _ _ _ low lies last j g.1 l
    form_apart P0 j l g = p0_apart _ _ _ low lies last j g.1 l g.2
    form_apart Result j l g = result_apart _ _ _ low lies last j l g.1 g.2
    form_apart Digest j l g = digest_apart j l g
    form_apart Appended j l g = appended_apart C allowed j g.1

  pub place_apart : (s : Step) (i j l : ℕ) → InCircuit C (place s i j l) → Apart (wire_count C) (form_of C i s j l)
  place_apart s i j l h = form_apart i h.block s j l h.step

  pub row_apart : (k : ℕ) → k < row_count C → Apart (wire_count C) (form_at C k)
  unfolding form_at
  row_apart k l =
      let q = place_at (block_count C) k in
      place_apart q.step q.block q.index q.line (in_circuit C allowed k l)
