-- The 8 bytes of the coefficient go behind the 4 of the wire.
use Rattle.forms.proofs.term_bytes.TermBytes.{term_written}
use Rattle.forms.proofs.term_bytes.put_term.Goals as goal

pub returns : goal.returns
returns c = term_written c.args.term _ _ _ _ _ c.coefficient_bits.ensures c.put_number.ensures c.put_number-2.ensures
