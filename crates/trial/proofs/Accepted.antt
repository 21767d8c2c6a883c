-- What the producer leaves of a record that our limit allows is accepted against what `digest` leaves: demand 3's last sentence,
-- said of the bytes that the two calls leave.
use Rattle.refusal.specs.Refusals.{Outcome, done}
use mathlib.Core.List.{List, ◌++◌, append-nil}
use mathlib.Core.Path.{◌≡◌, ◌∙◌, ap}
use Prim.Native.Nat.{ℕ, ◌*◌, ◌≤◌}
use native.Mathlib.Omega.{arith}
use borrow.Author.Tests.{le-ltb}
use lib.ListN.{drop_of_length-le, length, take}
use Rattle.circuit.specs.declared.circuits.Circuit.TheVariants.{Record}
use Rattle.encoding.specs.Bytes.{Bytes}
use Rattle.encoding.specs.Packed.{packed_length, spare_bits}
use Rattle.limits.proofs.handed.Asked.{handed_passes}
use Rattle.limits.specs.Handed.{IsRecord}
use Rattle.limits.specs.Limit.{Allows, our_limit}
use Rattle.record.proofs.Demand3.{demand3}
use Rattle.record.specs.Check.{check_answer}
use Rattle.record.specs.Produce.{produce_answer, produce_left}
use Rattle.circuit.specs.Wires.{wire_count}
use Rattle.sm3.specs.Digest.{digest_answer, digest_left}
use Rattle.sm3.specs.Message.{digest_bytes}

-- bytes of the right length with no spare bit set are a record
pub is_record : (n : ℕ) (r : List ℕ) → Bytes r → length r ≡ packed_length n → spare_bits n r ≡ 0 → IsRecord n r
is_record n r bytes size spare = record { bytes = bytes; size = size; spare = spare }

-- neither call refuses such a record
module _ (n : ℕ) (r : List ℕ) (allowed : Allows our_limit n) (is : IsRecord n r) where
  pub hashed_done : (room : ℕ) → room ≡ 32 → digest_answer our_limit n r room ≡ done
  hashed_done room long = handed_passes n r our_limit _ allowed is ∙ rw (le-ltb room 32 (omega arith))

  pub made_done : (room : ℕ) → 8 * wire_count (Record n) ≤ room → produce_answer our_limit n r room ≡ done
  made_done room long = handed_passes n r our_limit _ allowed is ∙ rw (le-ltb room (8 * wire_count (Record n)) long)

-- what `digest` leaves in 32 bytes
digest-left : (n : ℕ) (r before after : List ℕ) (answer : Outcome) → Allows our_limit n → IsRecord n r → length before ≡ 32
    → answer ≡ digest_answer our_limit n r (length before) → after ≡ digest_left answer n r before → after ≡ digest_bytes n r
digest-left n r before after answer allowed is room e left =
    left
    ∙ ap (λ q. digest_left q n r before) (e ∙ hashed_done n r allowed is (length before) room)
    ∙ ap (λ l. digest_bytes n r ++ l) (drop_of_length-le before {i = 32} (omega arith))
    ∙ append-nil (digest_bytes n r)

pub produced_accepted : (n : ℕ) (r out before digest left : List ℕ) (end : ℕ) (hashed made checked : Outcome)
    → Allows our_limit n → IsRecord n r → 8 * wire_count (Record n) ≤ length out → length before ≡ 32
    → hashed ≡ digest_answer our_limit n r (length before) → digest ≡ digest_left hashed n r before
    → made ≡ produce_answer our_limit n r (length out) → left ≡ produce_left made n r out
    → end ≡ 8 * wire_count (Record n)
    → checked ≡ check_answer our_limit n digest (take end left)
    → checked ≡ done
produced_accepted n r out before digest left end hashed made checked allowed is room long eh ed em el ee ec =
    ec
    ∙ ap (λ t. check_answer our_limit n t (take end left)) (digest-left n r before digest hashed allowed is long eh ed)
    ∙ ap (λ m. check_answer our_limit n (digest_bytes n r) (take m left)) ee
    ∙ ap (λ l. check_answer our_limit n (digest_bytes n r) (take (8 * wire_count (Record n)) l)) (el ∙ ap (λ q. produce_left q n r out) em)
    ∙ demand3.produced our_limit n r out allowed is room
