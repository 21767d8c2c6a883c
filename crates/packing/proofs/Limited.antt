-- What follows the tests of a limit and a length is none of their refusals.
use Rattle.std.specs.Prelude.{Err}
use mathlib.Core.Path.{refl}
use lib.ListN.{length}
use Rattle.circuit.specs.Wires.{wire_count}
use Rattle.circuit.specs.declared.circuits.Circuit.TheVariants.{Record}
use Rattle.limits.proofs.Limited.{Other, asks_nothing, limited_operation, other_number}
use Rattle.limits.specs.Limit.{length_answer}
use Rattle.packing.proofs.Answers.{pack-holds, unpack-holds}
use Rattle.packing.specs.Limited.{PackingLimited}
use Rattle.packing.specs.Pack.{pack_answer, pack_left}
use Rattle.packing.specs.Unpack.{unpack_answer, unpack_left}
use Rattle.refusal.specs.Refusals.{outcome_number, Outcome}

abbrev Free : Outcome → Type 0
Free o = Other (outcome_number o)

pub packing_limited : PackingLimited
unfolding pack_answer unpack_answer length_answer
packing_limited =
    record {
      pack =
          λ n a out.
          limited_operation Err outcome_number (λ r. refl) n (λ x. x) (asks_nothing outcome_number) _
          (pack-holds Free (wire_count (Record n)) a (length out) (other_number 4 refl refl refl) (other_number 6 refl refl refl)
          (λ w l. other_number 20 refl refl refl) (λ w l. other_number 10 refl refl refl) (other_number 0 refl refl refl))
          (λ answer. pack_left answer n a out);
      unpack =
          λ n p out.
          limited_operation Err outcome_number (λ r. refl) n (λ x. x) (asks_nothing outcome_number) _
          (unpack-holds Free (wire_count (Record n)) p (length out) (other_number 4 refl refl refl) (other_number 11 refl refl refl)
          (other_number 12 refl refl refl) (other_number 0 refl refl refl))
          (λ answer. unpack_left answer n p out);
    }
