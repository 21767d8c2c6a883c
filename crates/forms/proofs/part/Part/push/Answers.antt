-- A zero term adds nothing; another stands behind the terms so far.
use Rattle.std.proofs.Common.{sym, append-nil, ap, arith, length, length-take-le}
use Rattle.forms.proofs.part.Kept.{stored}
use Rattle.forms.proofs.shape.Nonzero.{nonzero_drops, nonzero_keeps}
use Rattle.forms.proofs.part.Part.push.Goals as goal

pub returns-then-term-eq0-clause-end : goal.returns-then-term-eq0-clause-end
returns-then-term-eq0-clause-end g c = rw (nonzero_drops c.args.term c.if-term-eq0.true) (sym (append-nil c.args.self.now))

pub returns-clause-end : goal.returns-clause-end
returns-clause-end g c =
    let held = c.self.inside in
    let count = length-take-le held.count held.terms (omega arith) in
    rw (nonzero_keeps c.args.term c.if-term-eq0.false)
    (stored held.terms held.count c.args.term (omega (arith, c.requires, ap length c.self.view_is, count)) c.self.view_is)
