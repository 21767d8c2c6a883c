-- Whole bytes: the tests ask the range and the count of wires, which are those of L bytes.
use mathlib.Core.Path.{◌∙◌}
use Prim.Native.Nat.{◌*◌}
use Rattle.circuit.proofs.WholeBytes as circuit
use Rattle.limits.proofs.Limited.{ours_length}
use Rattle.packing.specs.Pack.{pack_answer}
use Rattle.packing.specs.PackedCheck.{packed_check_answer}
use Rattle.packing.specs.Unpack.{unpack_answer}
use Rattle.packing.specs.WholeBytes.{WholeBytes}
use Rattle.sm3.proofs.WholeBytes.{whole_bytes}

pub packing_whole_bytes : WholeBytes
unfolding pack_answer unpack_answer packed_check_answer
packing_whole_bytes =
    record {
      pack = λ L a room. ours_length (8 * L) _ ∙ rw (whole_bytes.range L, (circuit.whole_bytes).wire_count_lem L);
      unpack = λ L p room. ours_length (8 * L) _ ∙ rw (whole_bytes.range L, (circuit.whole_bytes).wire_count_lem L);
      check = λ L d p. ours_length (8 * L) _ ∙ rw (whole_bytes.range L, (circuit.whole_bytes).wire_count_lem L);
    }
