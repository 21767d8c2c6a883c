-- The three words are those of the expansion, and are written one after the other.
use Rattle.std.proofs.Common.{◌+◌, refl, ap, arith}
use Rattle.assignment.proofs.Writes.{wrote_as, wrote_then}
use Rattle.forms.specs.WordWires.{word_wires}
use Rattle.assignment.proofs.expansion.put_expanded.Goals as goal

pub returns : goal.returns
returns c =
    let r = c.expansion_values-r.ensures in
    let w = c.args.w.0 in record {
      value = r.word;
      wrote = wrote_then (w + 32) refl (wrote_as (ap word_wires r.q) c.put_word.ensures)
          (wrote_then (w + 64) (omega arith) (wrote_as (ap word_wires r.p1) c.put_word-2.ensures) c.put_word-3.ensures);
    }
