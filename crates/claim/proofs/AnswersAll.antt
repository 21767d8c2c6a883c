-- Enough of standard input is read. The line has at most 75 bytes, so its front tells it; and what stands behind it is whole, or in what is
-- read as in all of it there are more bytes than any record's packed wires.
use mathlib.Core.List.{List}
use mathlib.Core.Logic.{by_cases}
use mathlib.Core.Path.{◌≡◌, ◌∙◌, ap, refl, sym}
use Prim.Native.Nat.{ℕ, ◌+◌, ◌<◌, ◌≤◌}
use native.Mathlib.Decide.{dec_lt}
use native.Mathlib.Omega.{arith}
use lib.ListN.{length, length-drop, take}
use lib.Seq.{length-take-le, take_all}
use Rattle.circuit.specs.Wires.{wire_count}
use Rattle.circuit.specs.declared.circuits.Circuit.TheVariants.{Record}
use Rattle.claim.proofs.LineFront.{digest-front, parse-front}
use Rattle.claim.proofs.LineRight.{claimed}
use Rattle.claim.specs.Answer.{AnswersAll, answer_to, input_room}
use Rattle.claim.specs.Answer as answer
use Rattle.claim.specs.Line.{claim, digest_at, packed_from, parse_of}
use Rattle.std.specs.Prelude.{None, Option, Some}
use Rattle.claim.specs.declared.line.Parsed.{Parsed}
use Rattle.encoding.specs.Packed.{packed_length}
use Rattle.limits.specs.Blocks.{blocks, most_bits}
use Rattle.packing.proofs.Answers.{check-length, check_range}
use Rattle.packing.specs.PackedCheck.{packed_check_answer}
use Rattle.text.proofs.AfterField.{length-field}
use Rattle.text.specs.Text.{comma}

-- the packed bytes of the longest records
most_packed : (n : ℕ) → n ≤ most_bits → packed_length (wire_count (Record n)) ≤ 45121
unfolding wire_count blocks
most_packed n range = omega arith

-- packed bytes of two wrong lengths are refused alike
both_long : (n : ℕ) (d p q : List ℕ) → 45121 < length p → 45121 < length q → packed_check_answer n d p ≡ packed_check_answer n d q
both_long n d p q long-p long-q =
    by_cases (dec_lt most_bits n) (λ above. check_range n d p above ∙ sym (check_range n d q above))
    (λ within.
    let range : n ≤ most_bits = omega arith in
    check-length n d p range (λ e. omega (arith, most_packed n range))
    ∙ sym (check-length n d q range (λ e. omega (arith, most_packed n range))))

module _ (m : ℕ) (s : List ℕ) (room : input_room ≤ m) where
  same_check : (l at : ℕ) → parse_of s ≡ claim l at
      → packed_check_answer l (digest_at (take m s) at) (packed_from (take m s) at)
      ≡ packed_check_answer l (digest_at s at) (packed_from s at)
  same_check l at read =
      by_cases (dec_lt m (length s))
      (λ more.
      let line = claimed s l at read in
      let short : at ≤ 10 = omega (arith, line.place, length-field l comma line.below) in
      ap (λ d. packed_check_answer l d (packed_from (take m s) at)) (digest-front m s (omega arith) l at read)
      ∙ both_long l (digest_at s at) (packed_from (take m s) at) (packed_from s at)
      (omega (arith, length-drop (at + 65) (take m s), length-take-le m s (omega arith)))
      (omega (arith, length-drop (at + 65) s)))
      (λ all. ap (λ t. packed_check_answer l (digest_at t at) (packed_from t at)) (take_all m s (omega arith)))

  by_line : (r : Option Parsed) → parse_of s ≡ r → answer.claimed r (take m s) ≡ answer.claimed r s
  by_line None read = refl
  by_line (Some c) read = ap answer.checked (same_check c.bits c.digest read)

  same_answer : answer_to (take m s) ≡ answer_to s
  unfolding answer_to
  same_answer =
      ap (λ r. answer.claimed r (take m s)) (parse-front m s (omega arith)) ∙ by_line (parse_of s) refl

pub answers_all : AnswersAll
answers_all = same_answer
