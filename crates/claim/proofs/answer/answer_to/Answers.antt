-- The line is read; its digest and what stands behind it are those of the definition.
use mathlib.Core.Path.{◌∙◌, ap, ap₂, sym}
use native.Mathlib.Nat.{le_of_eq}
use native.Mathlib.Omega.{arith}
use lib.ListN.{length-drop}
use lib.Seq.{take_all}
use Rattle.std.proofs.lemmas.Result.{err_from_is_err_and}
use Rattle.claim.proofs.LineRight.{claimed}
use Rattle.claim.specs.Answer as answer
use Rattle.claim.specs.Answer.{answer_to}
use Rattle.packing.specs.PackedCheck.{packed_check_answer}
use Rattle.claim.proofs.answer.answer_to.Goals as goal

pub put_bytes_of_hex-requires : goal.put_bytes_of_hex-requires
put_bytes_of_hex-requires c = (claimed _ _ _ (sym c.parse.ensures ∙ c.in_ok-claim.ensures.ok_part)).digits

pub overflow_add-packed : goal.overflow_add-packed
overflow_add-packed c = omega (arith, (claimed _ _ _ (sym c.parse.ensures ∙ c.in_ok-claim.ensures.ok_part)).within)

pub slice_bounds-check_packed-start : goal.slice_bounds-check_packed-start
slice_bounds-check_packed-start c = (claimed _ _ _ (sym c.parse.ensures ∙ c.in_ok-claim.ensures.ok_part)).within

pub slice_bounds-check_packed-count : goal.slice_bounds-check_packed-count
slice_bounds-check_packed-count c = (claimed _ _ _ (sym c.parse.ensures ∙ c.in_ok-claim.ensures.ok_part)).within

pub returns-in_err-check_packed : goal.returns-in_err-check_packed
unfolding answer_to
returns-in_err-check_packed c =
    let s = c.args.input.now in
    let read = sym c.parse.ensures ∙ c.in_ok-claim.ensures.ok_part in
    let refused = err_from_is_err_and c.from_residual-in_err-check_packed.result c.from_residual-in_err-check_packed.ensures.1 in
    let checked =
    sym c.in_err-check_packed.was
    ∙ c.check_packed.ensures
    ∙ ap₂ (packed_check_answer _) c.put_bytes_of_hex.ensures (take_all _ _ (le_of_eq (length-drop _ s))) in
    rw (refused.1, refused.2) (ap answer.checked checked ∙ sym (ap (λ r. answer.claimed r s) read))

pub returns : goal.returns
unfolding answer_to
returns c =
    let s = c.args.input.now in
    let read = sym c.parse.ensures ∙ c.in_ok-claim.ensures.ok_part in
    let checked =
    sym c.in_ok-check_packed.was
    ∙ c.check_packed.ensures
    ∙ ap₂ (packed_check_answer _) c.put_bytes_of_hex.ensures (take_all _ _ (le_of_eq (length-drop _ s))) in
    ap answer.checked checked ∙ sym (ap (λ r. answer.claimed r s) read)
