-- What a caller's limit changes in the digest's answer, and what it does not (document 02, request 8).
use Rattle.std.specs.Prelude.{◌≡◌, ℕ, List, length, Err}
use Rattle.encoding.specs.Packed.{packed_length, spare_bits}
use Rattle.limits.specs.Limited.{Limited}
use Rattle.sm3.specs.Digest.{digest_answer, digest_left}

-- 13 and 14 are asked of the record's bytes
abbrev pub DigestLimited : Type 0
DigestLimited =
    (n : ℕ) (bytes out : List ℕ)
    → Limited Err n ((length bytes ≡ packed_length n) × (spare_bits n bytes ≡ 0)) (λ l. digest_answer l n bytes (length out))
    (λ l. digest_left (digest_answer l n bytes (length out)) n bytes out)
