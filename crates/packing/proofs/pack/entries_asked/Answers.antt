-- An entry of p or more is refused whether or not another is no bit.
use mathlib.Core.Path.{sym, ◌∙◌}
use Rattle.std.proofs.lemmas.Result.{err_from_is_err_and}
use Rattle.packing.proofs.pack.EntriesAsked.{asked_refused}
use Rattle.packing.proofs.pack.entries_asked.Goals as goal

pub returns-in_err-below_prime : goal.returns-in_err-below_prime
returns-in_err-below_prime c =
    let p = err_from_is_err_and c.from_residual.result c.from_residual.ensures.1 in
    rw (p.1, p.2) (sym (asked_refused _ _ _ (sym c.below_prime.ensures ∙ c.in_err-below_prime.was)))
