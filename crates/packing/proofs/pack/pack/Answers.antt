-- The tests are the refusals in their order; past them all wires are bits, and they are packed from the buffer's front on.
use Rattle.refusal.specs.Refusals.{done}
use mathlib.Core.Path.{◌≡◌, ◌∙◌, ap, refl, sym}
use Prim.Native.Nat.{ℕ, ◌*◌, ◌<◌, ◌≤◌}
use native.Mathlib.Omega.{arith}
use borrow.Author.Tests.{le-ltb, lt-ltb, ne_eqb}
use lib.ListN.{length}
use Rattle.assignment.specs.Assignment.{entry}
use Rattle.circuit.specs.Wires.{wire_count}
use Rattle.circuit.specs.declared.circuits.Circuit.TheVariants.{Record}
use Rattle.encoding.proofs.PackedBits.{length-packed}
use Rattle.encoding.proofs.Written.{written_as, written-front}
use Rattle.encoding.specs.Packed.{packed_bytes, packed_length}
use Rattle.limits.proofs.limit.Decided.{allowed_range}
use Rattle.limits.proofs.limit.Tests.{length_before, length_done, length_stands}
use Rattle.std.proofs.lemmas.Result.{err_from_is_err_and}
use Rattle.limits.specs.Limit.{length_answer}
use Rattle.packing.proofs.WordBytes.{one_over}
use Rattle.packing.proofs.pack.EntriesAsked.{asked_done}
use Rattle.packing.specs.Pack.{pack_answer}
use Rattle.packing.proofs.pack.PackAnswer.{entries_decide}
use Rattle.packing.proofs.pack.pack.Goals as goal

pub returns-in_err-ask_length-clause-value : goal.returns-in_err-ask_length-clause-value
unfolding pack_answer
returns-in_err-ask_length-clause-value c =
    let p = err_from_is_err_and c.from_residual.result c.from_residual.ensures.1 in
    rw (p.1, p.2) (sym (length_stands _ _ _ _ (sym c.ask_length.ensures ∙ c.in_err-ask_length.was)))

pub wire_count-wires-requires : goal.wire_count-wires-requires
wire_count-wires-requires c = allowed_range ((length_done _ _).0 (sym c.ask_length.ensures ∙ c.in_ok-ask_length.was)).0

pub returns-then-out-room : goal.returns-then-out-room
unfolding pack_answer
returns-then-out-room c =
    let a = c.args in
    let allowed : length_answer a.limit a.bits done ≡ done = sym c.ask_length.ensures ∙ c.in_ok-ask_length.was in
    let short : length a.out.now < packed_length (wire_count (Record a.bits)) = omega arith in
    record {
      value = sym ((length_before _ _).passed _ allowed ∙ simp (lt-ltb _ _ short));
      out_after = refl;
    }

pub returns-then-assignment-bytes : goal.returns-then-assignment-bytes
unfolding pack_answer
returns-then-assignment-bytes c =
    let counted = c.wire_count-wires.ensures.0 in
    let a = c.args in
    let allowed : length_answer a.limit a.bits done ≡ done = sym c.ask_length.ensures ∙ c.in_ok-ask_length.was in
    let room : packed_length (wire_count (Record a.bits)) ≤ length a.out.now = omega arith in
    let wrong : length a.assignment.now ≡ 8 * wire_count (Record a.bits) → ⊥ =
    λ e. c.if-assignment-bytes.true (e ∙ ap (λ m. 8 * m) (sym counted)) in
    record {
      value = sym ((length_before _ _).passed _ allowed ∙ simp (le-ltb _ _ room, ne_eqb _ _ wrong));
      out_after = refl;
    }

pub returns-in_err-entries_asked-clause-value : goal.returns-in_err-entries_asked-clause-value
returns-in_err-entries_asked-clause-value c =
    let a = c.args in
    let allowed : length_answer a.limit a.bits done ≡ done = sym c.ask_length.ensures ∙ c.in_ok-ask_length.was in
    let p = err_from_is_err_and c.from_residual-in_err-entries_asked.result c.from_residual-in_err-entries_asked.ensures.1 in
    rw (p.1, p.2)
    (sym c.in_err-entries_asked.was
    ∙ c.entries_asked.ensures
    ∙ entries_decide _ _ _ _ a.assignment.now c.wire_count-wires.ensures.0 allowed (omega arith) c.if-assignment-bytes.false)

pub put_packed-requires : goal.put_packed-requires
put_packed-requires c =
    let a = c.args in (
      omega (arith, one_over a.bits),
      omega arith,
      omega arith,
      (asked_done _ a.assignment.now).0 (sym c.entries_asked.ensures ∙ c.in_ok-entries_asked.was),
    )

pub returns : goal.returns
returns c =
    let a = c.args in
    let allowed : length_answer a.limit a.bits done ≡ done = sym c.ask_length.ensures ∙ c.in_ok-ask_length.was in
    let wires : ℕ = wire_count (Record a.bits) in
    record {
      value = sym c.in_ok-entries_asked.was
          ∙ c.entries_asked.ensures
          ∙ entries_decide _ _ _ _ a.assignment.now c.wire_count-wires.ensures.0 allowed (omega arith) c.if-assignment-bytes.false;
      out_after = written-front (packed_length wires) (length-packed wires (entry a.assignment.now)) (omega arith)
          (written_as (ap (λ m. packed_bytes m (entry a.assignment.now)) c.wire_count-wires.ensures.0) c.put_packed.ensures);
    }
