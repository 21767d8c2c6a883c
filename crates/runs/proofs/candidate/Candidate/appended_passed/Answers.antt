-- Before turn k the first k appended rows hold; a turn adds row k, whose form is judged.
use mathlib.Core.List.{List}
use mathlib.Core.Path.{◌≡◌, ◌∙◌, subst, sym}
use Prim.Native.Nat.{ℕ, ◌+◌, ◌*◌, ◌<◌}
use native.Mathlib.Omega.{arith}
use Rattle.assignment.specs.Assignment.{entry}
use Rattle.block.specs.Steps.{block_rows}
use Rattle.circuit.proofs.exact.Frame.{appended-row}
use Rattle.circuit.proofs.place.PlaceRange.{some_blocks}
use Rattle.circuit.proofs.shape.RowApart.{appended_apart}
use Rattle.circuit.specs.Circuit.{row_at}
use Rattle.circuit.specs.Circuits.{appended_form, appended_rows, block_count}
use Rattle.circuit.specs.Ranges.{Allowed}
use Rattle.circuit.specs.Wires.{wire_count}
use Rattle.circuit.specs.declared.circuits.Circuit.{Circuit}
use Rattle.forms.proofs.shape.Apart.{Apart}
use Rattle.forms.specs.Rows.{Satisfied, row_of}
use Rattle.forms.specs.declared.form.Form.{Form}
use Rattle.runs.proofs.Holding.{hold_none, hold_then}
use Rattle.runs.proofs.Reaching.{apart_reached}
use Rattle.runs.specs.RowsHold.{RowsHold}
use Rattle.runs.proofs.candidate.Candidate.appended_passed.Invariants.{first}
use Rattle.runs.proofs.candidate.Candidate.appended_passed.Goals as goal

-- appended row k holds where its form does
row-holds : {bytes : List ℕ} (C : Circuit) → Allowed C → (k : ℕ) → k < appended_rows C → {f : Form} → f ≡ appended_form C k
    → Satisfied (entry bytes) (row_of f) → RowsHold C (first C + k) 1 bytes
unfolding row_at
row-holds {bytes} C allowed k l e holds =
    record {
      each =
          λ j from to.
          let row : 256 + (block_rows * block_count C + (256 + k)) ≡ j = omega arith in
          subst (λ r. Satisfied (entry bytes) (row_at C r)) row
          (subst (λ (f : Form). Satisfied (entry bytes) (row_of f)) (e ∙ sym (appended-row C (some_blocks C allowed) k l)) holds);
    }

pub appended_rows-rows-requires : goal.appended_rows-rows-requires
appended_rows-rows-requires c = c.args.self.now.allowed

pub loop-k-init : goal.loop-k-init
loop-k-init c = (omega arith, hold_none _)

pub appended_form-requires : goal.appended_form-requires
appended_form-requires c =
    (c.args.self.now.allowed, omega (arith, c.loop-k-test.true, c.appended_rows-rows.ensures.0))

pub form_holds-requires : goal.form_holds-requires
form_holds-requires c =
    let s = c.args.self.now in
    let C = s.circuit in
    let form = c.appended_form.ensures in (
      s.one,
      s.below,
      apart_reached (wire_count C) _ c.appended_form.result s.whole
          (subst (Apart (wire_count C)) (sym form.0)
          (appended_apart C s.allowed _ (omega (arith, c.loop-k-test.true, c.appended_rows-rows.ensures.0)))),
      form.1,
    )

pub returns-then-not-form_holds : goal.returns-then-not-form_holds
returns-then-not-form_holds c =
    (omega (arith, c.loop-k.invariant.0, c.appended_rows-rows.ensures.0), c.loop-k.invariant.1)

pub loop-k-preserved : goal.loop-k-preserved
loop-k-preserved c =
    let C = c.args.self.now.circuit in (
      omega (arith, c.loop-k-test.true),
      hold_then (first C) c.loop-k.k 1 c.loop-k.invariant.1
          (row-holds C c.args.self.now.allowed c.loop-k.k (omega (arith, c.loop-k-test.true, c.appended_rows-rows.ensures.0))
          c.appended_form.ensures.0
          (c.form_holds.ensures c.if-not-form_holds.false)),
    )

pub returns : goal.returns
returns c =
    let all : c.loop-k.k ≡ c.appended_rows-rows.result = omega (arith, c.loop-k-test.false, c.loop-k.invariant.0) in (
      omega (arith, c.appended_rows-rows.ensures.0),
      subst (λ n. RowsHold c.args.self.now.circuit (first c.args.self.now.circuit) n c.args.self.now.assignment.now) all c.loop-k.invariant.1,
    )
