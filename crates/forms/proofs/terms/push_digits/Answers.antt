-- The tens are put on behind the units.
use Rattle.forms.proofs.terms.Pushed.{two_digits}
use Rattle.forms.proofs.terms.push_digits.Goals as goal

pub returns-in-Some-clause-end : goal.returns-in-Some-clause-end
returns-in-Some-clause-end c =
    two_digits c.args.plus c.args.d _ _ _ _ c.in-Some.is c.push_number.ensures.end c.push_number-in-Some.ensures.end
