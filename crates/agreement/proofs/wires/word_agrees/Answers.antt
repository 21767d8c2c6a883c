-- The bits that write a word are its wires.
use Rattle.std.proofs.Common.{ap, arith, eqb-true}
use Rattle.forms.specs.WordWires.{word_wires}
use Rattle.agreement.proofs.Agreeing.{agrees_as, bits_agree}
use Rattle.agreement.proofs.wires.word_agrees.Goals as goal

pub returns : goal.returns
returns c =
    λ e. agrees_as (ap word_wires (eqb-true _ _ e)) (bits_agree (c.read_standing-s.ensures (omega (arith, c.if-s-gt1.false))))
