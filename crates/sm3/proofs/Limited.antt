-- The digest asks the record's bytes before 22, and then its buffer.
use Rattle.std.specs.Prelude.{Err}
use Rattle.std.proofs.Common.{cond, ltb, length, refl}
use Rattle.limits.proofs.Limited.{limited_operation, room_other}
use Rattle.limits.proofs.handed.Asked.{asks_bytes}
use Rattle.limits.specs.Handed.{handed_answer, record_bytes_answer}
use Rattle.refusal.specs.Refusals.{outcome_number, done}
use Rattle.refusal.specs.declared.outcome.Refusal.TheVariants.{BufferTooShort}
use Rattle.sm3.specs.Digest.{digest_left}
use Rattle.sm3.specs.Limited.{DigestLimited}

pub digest-limited : DigestLimited
unfolding handed_answer
digest-limited n bytes out =
    limited_operation Err outcome_number (λ r. refl) n (record_bytes_answer n bytes) (asks_bytes n bytes)
    (cond (ltb (length out) 32) (Err BufferTooShort) done) (room_other (ltb (length out) 32)) (λ answer. digest_left answer n bytes out)
