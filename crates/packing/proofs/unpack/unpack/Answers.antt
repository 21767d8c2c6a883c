-- The tests are the refusals in their order; past them the words' entries are written, and behind them the last one.
use Rattle.refusal.specs.Refusals.{done}
use mathlib.Core.Path.{◌≡◌, ◌∙◌, ap, refl, subst, sym}
use Prim.Native.Nat.{ℕ, ◌+◌, ◌-◌, ◌*◌, ◌/◌, ◌%◌, ◌<◌, ◌≤◌}
use native.Mathlib.Omega.{arith}
use borrow.Author.Tests.{eq-eqb, le-ltb, lt-ltb, ne_eqb}
use lib.ListN.{length}
use Rattle.assignment.proofs.Writes.{wrote_front, wrote-next}
use Rattle.assignment.specs.Wrote.{Wrote}
use Rattle.circuit.specs.Wires.{wire_count}
use Rattle.circuit.specs.declared.circuits.Circuit.TheVariants.{Record}
use Rattle.encoding.specs.Bits.{bit_of_bytes}
use Rattle.encoding.specs.Packed.{packed_length, spare_bits}
use Rattle.limits.proofs.limit.Decided.{allowed_range}
use Rattle.limits.proofs.limit.Tests.{length_before, length_done, length_stands}
use Rattle.std.proofs.lemmas.Result.{err_from_is_err_and}
use Rattle.limits.specs.Limit.{length_answer}
use Rattle.packing.proofs.WordBytes.{one_over}
use Rattle.packing.specs.Packed.{unpacked_bytes}
use Rattle.packing.specs.Unpack.{packed_answer, unpack_answer}
use Rattle.packing.proofs.unpack.unpack.Goals as goal

pub returns-in_err-ask_length-clause-value : goal.returns-in_err-ask_length-clause-value
unfolding unpack_answer
returns-in_err-ask_length-clause-value c =
    let p = err_from_is_err_and c.from_residual.result c.from_residual.ensures.1 in
    rw (p.1, p.2) (sym (length_stands _ _ _ _ (sym c.ask_length.ensures ∙ c.in_err-ask_length.was)))

pub wire_count-wires-requires : goal.wire_count-wires-requires
wire_count-wires-requires c = allowed_range ((length_done _ _).0 (sym c.ask_length.ensures ∙ c.in_ok-ask_length.was)).0

pub returns-then-out-wires : goal.returns-then-out-wires
unfolding unpack_answer
returns-then-out-wires c =
    let a = c.args in
    let allowed : length_answer a.limit a.bits done ≡ done = sym c.ask_length.ensures ∙ c.in_ok-ask_length.was in
    let short : length a.out.now < 8 * wire_count (Record a.bits) = omega arith in
    record {
      value = sym ((length_before _ _).passed _ allowed ∙ simp (lt-ltb _ _ short));
      out_after = refl;
    }

pub returns-then-packed-packed_length : goal.returns-then-packed-packed_length
unfolding unpack_answer packed_answer
returns-then-packed-packed_length c =
    let counted = c.wire_count-wires.ensures.0 in
    let a = c.args in
    let allowed : length_answer a.limit a.bits done ≡ done = sym c.ask_length.ensures ∙ c.in_ok-ask_length.was in
    let room : 8 * wire_count (Record a.bits) ≤ length a.out.now = omega arith in
    let wrong : length a.packed.now ≡ packed_length (wire_count (Record a.bits)) → ⊥ =
    λ e. c.if-packed-packed_length.true (e ∙ ap packed_length (sym counted) ∙ sym c.packed_length.ensures) in
    record {
      value = sym ((length_before _ _).passed _ allowed ∙ simp (le-ltb _ _ room, ne_eqb _ _ wrong));
      out_after = refl;
    }

pub spare_bits-requires : goal.spare_bits-requires
spare_bits-requires c = c.if-packed-packed_length.false ∙ c.packed_length.ensures

pub returns-then-spare_bits-ne0 : goal.returns-then-spare_bits-ne0
unfolding unpack_answer packed_answer
returns-then-spare_bits-ne0 c =
    let counted = c.wire_count-wires.ensures.0 in
    let a = c.args in
    let allowed : length_answer a.limit a.bits done ≡ done = sym c.ask_length.ensures ∙ c.in_ok-ask_length.was in
    let wires : ℕ = wire_count (Record a.bits) in
    let room : 8 * wires ≤ length a.out.now = omega arith in
    let long : length a.packed.now ≡ packed_length wires =
    c.if-packed-packed_length.false ∙ c.packed_length.ensures ∙ ap packed_length counted in
    let set : spare_bits wires a.packed.now ≡ 0 → ⊥ =
    λ e. c.if-spare_bits-ne0.true (c.spare_bits.ensures ∙ ap (λ m. spare_bits m a.packed.now) counted ∙ e) in
    record {
      value = sym ((length_before _ _).passed _ allowed ∙ simp (le-ltb _ _ room, eq-eqb _ _ long, ne_eqb _ _ set));
      out_after = refl;
    }

pub returns : goal.returns
unfolding unpack_answer packed_answer unpacked_bytes
returns c =
    let counted = c.wire_count-wires.ensures.0 in
    let a = c.args in
    let p = a.packed.now in
    let allowed : length_answer a.limit a.bits done ≡ done = sym c.ask_length.ensures ∙ c.in_ok-ask_length.was in
    let wires : ℕ = wire_count (Record a.bits) in
    let over : wires % 64 ≡ 1 = one_over a.bits in
    let room : 8 * wires ≤ length a.out.now = omega arith in
    let long : length p ≡ packed_length wires = c.if-packed-packed_length.false ∙ c.packed_length.ensures ∙ ap packed_length counted in
    let none : spare_bits wires p ≡ 0 =
    sym (c.spare_bits.ensures ∙ ap (λ m. spare_bits m p) counted) ∙ c.if-spare_bits-ne0.false in
    let result : ℕ = c.wire_count-wires.result in
    let words : 64 * (result / 64) + 1 ≡ wires = omega arith in
    let last : result - 1 ≡ 64 * (result / 64) = omega arith in record {
      value = sym ((length_before _ _).passed _ allowed ∙ simp (le-ltb _ _ room, eq-eqb _ _ long, eq-eqb _ _ none));
      out_after = wrote_front room
          (subst (λ m. Wrote 0 m (bit_of_bytes p) a.out.now c.put_entry.new.out) words
          (wrote-next _ (omega arith) (c.bit_at.ensures ∙ ap (bit_of_bytes p) last) c.put_entries.ensures c.put_entry.ensures));
    }
