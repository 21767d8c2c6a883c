-- Where the content is free, its rows ask for bits; else the loop judges them one by one, by their forms.
use mathlib.Core.Bool.{false≢true}
use mathlib.Core.Logic.{by_cases}
use mathlib.Core.Path.{◌≡◌, ◌∙◌, ap, subst, sym}
use Prim.Native.Nat.{ℕ, ◌<◌, ◌≤◌}
use native.Mathlib.Decide.{dec_lt}
use native.Mathlib.Omega.{arith}
use Rattle.circuit.proofs.shape.RowApart.{content_apart}
use Rattle.circuit.specs.Circuit.{message_bit}
use Rattle.circuit.specs.Circuits.{content_form, message_of}
use Rattle.circuit.specs.Wires.{wire_count}
use Rattle.circuit.specs.declared.circuits.Circuit.{Circuit}
use Rattle.circuit.specs.declared.message.MessageSpan.{MessageSpan}
use Rattle.forms.proofs.exact.Forms.{bit-row}
use Rattle.forms.proofs.shape.Apart.{Apart}
use Rattle.forms.specs.Rows.{Satisfied, row_of}
use Rattle.forms.specs.declared.form.Form.{Form}
use Rattle.runs.proofs.FormRows.{judged}
use Rattle.runs.proofs.Reaching.{apart_reached}
use Rattle.runs.proofs.candidate.Candidate.content_holds.Goals as goal

-- a bit below the first of the padding is one of the content
in_content : (C : Circuit) (i : ℕ) {m : MessageSpan} {n : ℕ} → m ≡ message_of C i
    → (n ≤ 512) × ((k : ℕ) → k < 512 → m.bits ≤ message_bit m i k → n ≤ k) × (n < 512 → m.bits ≤ message_bit m i n)
    → (b : ℕ) → b < n → (b < 512) × (message_bit (message_of C i) i b < (message_of C i).bits)
in_content C i {m} {n} same (few, padding, whole) b l = (
  omega arith,
  subst (λ (m : MessageSpan). message_bit m i b < m.bits) same
      (by_cases (dec_lt (message_bit m i b) m.bits) (λ h. h) (λ past. absurd (omega (arith, padding b (omega arith) (omega arith))))),
)

-- the row of a form that is another
same_row : (a : ℕ → ℕ) {f g : Form} → f ≡ g → Satisfied a (row_of f) → Satisfied a (row_of g)
same_row a = subst (λ (f : Form). Satisfied a (row_of f))

pub content_is_free-requires : goal.content_is_free-requires
content_is_free-requires c = c.args.self.now.allowed

pub returns-then-content_is_free : goal.returns-then-content_is_free
returns-then-content_is_free c =
    λ e.
    let given = c.requires in
    record {
      each =
          λ b l inside.
          same_row _ (sym (c.content_is_free.ensures c.if-content_is_free.true b))
          ((bit-row _ (judged c.args.self.now.assignment.now c.args.self.now.one c.args.self.now.below) _).1 (given.3.each b l));
    }

pub overflow_sub-i : goal.overflow_sub-i
overflow_sub-i c = c.requires.2.from

pub overflow_mul-i : goal.overflow_mul-i
overflow_mul-i c = omega (arith, c.requires.2.few)

pub loop-b-init : goal.loop-b-init
loop-b-init c = (omega arith, λ k l. absurd (omega arith))

pub content_form-requires : goal.content_form-requires
content_form-requires c =
    let given = c.requires in
    let at = in_content c.args.self.now.circuit c.args.i given.1 c.content_bits-b-end.ensures _ c.loop-b-test.true in
    (c.args.self.now.allowed, given.0, at.0, at.1)

pub form_holds-requires : goal.form_holds-requires
form_holds-requires c =
    let given = c.requires in
    let C = c.args.self.now.circuit in
    let at = in_content C c.args.i given.1 c.content_bits-b-end.ensures _ c.loop-b-test.true in
    let form = c.content_form.ensures in (
      c.args.self.now.one,
      c.args.self.now.below,
      apart_reached (wire_count C) _ c.content_form.result c.args.self.now.whole
          (subst (Apart (wire_count C)) (sym form.0) (content_apart C c.args.self.now.allowed c.args.i _ given.0 at.0 at.1)),
      form.1,
    )

pub returns-then-not-form_holds : goal.returns-then-not-form_holds
returns-then-not-form_holds c = λ e. absurd (false≢true e)

pub loop-b-preserved : goal.loop-b-preserved
loop-b-preserved c = (
  omega (arith, c.loop-b-test.true),
  λ k l.
      by_cases (dec_lt k c.loop-b.b) (c.loop-b.invariant.1 k)
      (λ at.
      let same : c.loop-b.b ≡ k = omega arith in
      same_row _ (c.content_form.ensures.0 ∙ ap (content_form c.args.self.now.circuit c.args.i) same)
      (c.form_holds.ensures c.if-not-form_holds.false)),
)

pub returns : goal.returns
returns c =
    let bits = c.content_bits-b-end.ensures in
    λ e.
    record {
      each =
          λ b l inside.
          c.loop-b.invariant.1 b
          (by_cases (dec_lt b c.content_bits-b-end.result) (λ h. omega (arith, h, c.loop-b-test.false))
          (λ past. absurd (omega (arith, bits.2 (omega arith), inside))));
    }
