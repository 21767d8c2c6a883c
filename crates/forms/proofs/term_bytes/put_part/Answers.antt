-- Turn i writes term i behind the bytes of those before it.
use Rattle.std.proofs.Common.{arith}
use Rattle.encoding.proofs.Written.{written_none}
use Rattle.forms.proofs.term_bytes.TermBytes.{terms-next}
use Rattle.forms.specs.TermBytes.{terms_bytes}
use Rattle.forms.proofs.term_bytes.put_part.Goals as goal

pub loop-term-init : goal.loop-term-init
unfolding terms_bytes
loop-term-init c = (omega arith, written_none _ _)

pub loop-term-preserved : goal.loop-term-preserved
loop-term-preserved c =
    let inv = c.loop-term.invariant in
    (omega (arith, inv.0), terms-next _ _ _ c.loop-term-test.true inv.0 inv.1 c.put_term.ensures)
