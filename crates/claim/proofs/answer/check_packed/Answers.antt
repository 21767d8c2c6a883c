-- What unpacking refuses is refused; else the front of the room has the entries, and document 01's check answers.
use Rattle.refusal.specs.Refusals.{done}
use mathlib.Core.List.{List}
use mathlib.Core.Path.{◌≡◌, ◌∙◌, ap, sym}
use Prim.Native.Nat.{ℕ, ◌*◌, ◌≤◌}
use native.Mathlib.Omega.{arith}
use lib.Seq.{length-take-le}
use Rattle.claim.proofs.answer.Unpacked.{front_unpacked, most_bytes_lem}
use Rattle.limits.proofs.limit.Decided.{allowed_range}
use Rattle.limits.specs.Blocks.{most_bits}
use Rattle.limits.specs.Limit.{our_limit}
use Rattle.packing.proofs.Answers.{check-refused, check_unpacked, unpack_done}
use Rattle.packing.specs.Unpack.{unpack_answer}
use Rattle.record.specs.Check.{check_answer}
use Rattle.claim.proofs.answer.check_packed.Goals as goal

-- past unpacking the length is in range
range-done : (n : ℕ) (p : List ℕ) (room : ℕ) → unpack_answer our_limit n p room ≡ done → n ≤ most_bits
range-done n p room done = (allowed_range ((unpack_done our_limit n p room).0 done).0)

pub returns-in-Err : goal.returns-in-Err
returns-in-Err c =
    let a = c.args in
    sym
    (check-refused a.bits a.digest.now a.packed.now _ (λ range. omega (arith, most_bytes_lem a.bits range, c.requires)) _
    (sym c.in-Err.ensures.value))

pub wire_count-requires : goal.wire_count-requires
wire_count-requires c = range-done _ _ _ (sym c.in_default.ensures.value)

pub slice_bounds-check-end : goal.slice_bounds-check-end
slice_bounds-check-end c =
    omega (arith, most_bytes_lem _ (range-done _ _ _ (sym c.in_default.ensures.value)))

pub slice_bounds-check-end-2 : goal.slice_bounds-check-end-2
slice_bounds-check-end-2 c =
    sym (length-take-le _ _ (omega (arith, most_bytes_lem _ (range-done _ _ _ (sym c.in_default.ensures.value)))))

pub returns : goal.returns
returns c =
    let a = c.args in
    c.check.ensures
    ∙ ap (check_answer our_limit a.bits a.digest.now)
    (front_unpacked a.bits a.packed.now a.room.now _ _ _ c.unpack.ensures.value c.unpack.ensures.out_after
    (ap (λ m. 8 * m) c.wire_count.ensures.0) c.in_default.is)
    ∙ sym
    (check_unpacked a.bits a.digest.now a.packed.now _ (λ range. omega (arith, most_bytes_lem a.bits range, c.requires))
    (sym c.in_default.ensures.value))
