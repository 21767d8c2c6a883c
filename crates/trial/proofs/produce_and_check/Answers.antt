-- The three calls' contracts are what demand 3's last sentence asks: the digest's bytes, the assignment at the front of the
-- buffer, and the check's own definition. Neither of the first two calls refuses such a record.
use mathlib.Core.Path.{◌∙◌, ap, sym}
use Prim.Native.Nat.{◌*◌}
use native.Mathlib.Omega.{arith}
use lib.Seq.{length-take-le}
use Rattle.limits.proofs.Limited.{ours_allow}
use Rattle.refusal.proofs.Tests.{refused_done}
use Rattle.trial.proofs.Accepted.{hashed_done, is_record, made_done, produced_accepted}
use Rattle.trial.proofs.produce_and_check.Goals as goal

pub returns-in_err-digest : goal.returns-in_err-digest
returns-in_err-digest c =
    let is = is_record _ _ (λ k. (c.type_inv.bytes k).fits) c.requires.1 c.requires.2 in
    absurd
    (refused_done _
    (sym c.in_err-digest.was
    ∙ c.digest.ensures.value
    ∙ hashed_done _ _ (ours_allow _ c.requires.0) is _ c.requires.3))

pub returns-in_err-produce : goal.returns-in_err-produce
returns-in_err-produce c =
    let is = is_record _ _ (λ k. (c.type_inv.bytes k).fits) c.requires.1 c.requires.2 in
    absurd
    (refused_done _
    (sym c.in_err-produce.was
    ∙ c.produce.ensures.value
    ∙ made_done _ _ (ours_allow _ c.requires.0) is _ c.requires.4))

pub slice_bounds-check-end-2 : goal.slice_bounds-check-end-2
slice_bounds-check-end-2 c = sym (length-take-le _ _ (omega arith))

pub returns : goal.returns
returns c =
    let hashed = c.digest in
    let made = c.produce in
    let is = is_record _ _ (λ k. (c.type_inv.bytes k).fits) c.requires.1 c.requires.2 in
    produced_accepted c.args.bits c.args.bytes.now c.args.out.now c.args.sum.now _ _ _ hashed.result made.result c.check.result
    (ours_allow _ c.requires.0) is c.requires.4 c.requires.3
    hashed.ensures.value hashed.ensures.out_after made.ensures.value made.ensures.out_after
    (ap (λ n. 8 * n) c.wire_count.ensures.0) c.check.ensures
