-- The answer of `digest` and the bytes that it leaves (document 01, "Refusals in checking order"; document 02, requests 2 and 8).
use Rattle.std.specs.Prelude.{ℕ, cond, List, ◌++◌, drop, nat_lt, Err}
use Rattle.limits.specs.Handed.{handed_answer}
use Rattle.refusal.specs.Refusals.{left, Outcome, done}
use Rattle.refusal.specs.declared.outcome.Refusal.TheVariants.{BufferTooShort}
use Rattle.sm3.specs.Message.{digest_bytes}

-- the answer for a limit of l blocks, a record of n bits, its bytes and a buffer of `room` bytes: 21, 2, 13, 14, 22, and "4. The buffer to be written is shorter
-- than 32 bytes for a digest"
abbrev pub digest_answer : ℕ → ℕ → List ℕ → ℕ → Outcome
digest_answer l n bytes room = handed_answer l n bytes (cond (nat_lt room 32) (Err BufferTooShort) done)

-- what is left in the buffer: the digest, and "Bytes of a written buffer past its result keep their value"
abbrev pub digest_left : Outcome → ℕ → List ℕ → List ℕ → List ℕ
digest_left answer n bytes out = left answer (digest_bytes n bytes ++ drop 32 out) out
