-- What `seal` leaves of a line is accepted by `check` against the digest that it leaves: said of the bytes that the two calls leave and of
-- the definitions that their contracts cite.
use Rattle.refusal.specs.Refusals.{done}
use Rattle.std.specs.Prelude.{List, ◌≡◌, ℕ, ◌*◌, length, take}
use Rattle.circuit.specs.Wires.{wire_count}
use Rattle.circuit.specs.declared.circuits.Circuit.TheVariants.{Record}
use Rattle.encoding.specs.Bytes.{Bytes}
use Rattle.passage.specs.Seal.{assignment_of_line, check_line_answer, digest_of_line, line_bits, seal_answer}

abbrev pub SealedAccepted : Type 0
SealedAccepted =
    (s d a : List ℕ) → Bytes s → seal_answer s (length d) (length a) ≡ done
    → check_line_answer (take 32 (digest_of_line (seal_answer s (length d) (length a)) s d))
    (take (8 * wire_count (Record line_bits)) (assignment_of_line (seal_answer s (length d) (length a)) s a))
    ≡ done
