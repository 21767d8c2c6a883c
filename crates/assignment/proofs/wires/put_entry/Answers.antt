-- The eight bytes of the value are the bytes of one entry.
use Rattle.assignment.specs.Assignment.{entry_bytes}
use Rattle.assignment.proofs.wires.put_entry.Goals as goal

pub returns : goal.returns
unfolding entry_bytes
returns c = record { entries = c.put_eight_bytes.ensures }
