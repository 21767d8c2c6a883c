-- A length that is refused is refused whatever the check would say.
use mathlib.Core.Path.{sym, ◌∙◌}
use Rattle.std.proofs.lemmas.Result.{err_from_is_err_and}
use Rattle.limits.proofs.limit.Tests.{length_stands}
use Rattle.record.specs.Check.{check_answer}
use Rattle.record.proofs.check.check.Goals as goal

pub returns-in_err-ask_length : goal.returns-in_err-ask_length
unfolding check_answer
returns-in_err-ask_length c =
    let p = err_from_is_err_and c.from_residual.result c.from_residual.ensures.1 in
    rw (p.1, p.2) (sym (length_stands _ _ _ _ (sym c.ask_length.ensures ∙ c.in_err-ask_length.was)))
