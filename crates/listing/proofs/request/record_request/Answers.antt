-- A line that is read has numbers below 1,000,000,000; a length that our limit allows is that of a circuit that is allowed.
use mathlib.Core.Path.{sym, ap, ◌∙◌}
use Rattle.std.proofs.lemmas.Result.{err_from_is_err_and}
use Rattle.limits.proofs.limit.Tests.{length_range, length_refused}
use Rattle.limits.specs.Limit.{our_limit}
use Rattle.listing.specs.Request.{asked, checked, refused}
use Rattle.listing.proofs.LineRight.{parse_right}
use Rattle.listing.proofs.request.record_request.Goals as goal

pub returns-in_err-ask_length : goal.returns-in_err-ask_length
unfolding checked
returns-in_err-ask_length c =
    let answer = err_from_is_err_and c.from_residual-in_err-ask_length.result c.from_residual-in_err-ask_length.ensures.1 in
    let read = sym c.parse.ensures ∙ c.in_ok-parsed.ensures.ok_part in
    rw (answer.1, answer.2)
    (sym (ap asked read ∙ length_refused refused _ our_limit _ _ (sym c.in_err-ask_length.ensures)))

pub within-requires : goal.within-requires
within-requires c =
    let right = (parse_right c.args.line.now _ _ _).0 (sym c.parse.ensures ∙ c.in_ok-parsed.ensures.ok_part) in
    (length_range our_limit _ (sym c.in_ok-ask_length.ensures), right.1, right.2)
