-- Each word is put on behind the one before.
use Rattle.forms.proofs.terms.Pushed.{four_pushed}
use Rattle.forms.proofs.terms.push_addends.Goals as goal

pub returns-in-Some-clause-end : goal.returns-in-Some-clause-end
returns-in-Some-clause-end c =
    four_pushed c.args.s _ _ _ _ _ _ _ c.in-Some.is c.push_word.ensures.end c.push_word-2.ensures.end c.push_word-in-Some.ensures.end
    c.push_word-in-Some-2.ensures.end
