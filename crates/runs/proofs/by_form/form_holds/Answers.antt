-- Each arm tells which form it is at, and its row is satisfied by what the entries are; the other arms are found with the same lemmas.
use Rattle.std.proofs.Common.{arith}
use Rattle.std.proofs.lemmas.Grind.{common_steps}
use Rattle.runs.proofs.FormRows.{choice_holds, majority_holds}
use Rattle.runs.proofs.by_form.form_holds.Goals as goal

pub returns-in-Majority : goal.returns-in-Majority
returns-in-Majority c = grind (arith, common_steps, majority_holds)

pub returns-in-Choice : goal.returns-in-Choice
returns-in-Choice c = grind (arith, common_steps, choice_holds)
