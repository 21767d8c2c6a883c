-- A record that is not refused is in range, in its bytes, and has no spare bit set.
use mathlib.Core.Path.{◌∙◌, ap, sym}
use Rattle.limits.proofs.handed.Asked.{handed_done}
use Rattle.limits.proofs.limit.Decided.{allowed_range}
use Rattle.limits.specs.Handed.{outcome_of}
use Rattle.limits.specs.Limit.{our_limit}
use Rattle.trial.proofs.try_handed.Goals as goal

pub try_record-requires : goal.try_record-requires
try_record-requires c =
    let a = c.args in
    let passed = (handed_done a.bits a.bytes.now our_limit).0 (sym c.ask_record.ensures.answer ∙ ap outcome_of c.in-Ok.is) in
    (allowed_range passed.0, passed.1.0, passed.1.1.0, c.requires)
