-- What the program `packed` answers and prints (document 02, request 1; request 2 for the length l in bits).
use Rattle.std.specs.Prelude.{Err, List, [], ◌≡◌, Ok, Option, Result, Some, None, ℕ, ⊤, ◌≤◌, take}
use Rattle.claim.specs.Line.{digest_at, packed_from, parse_of}
use Rattle.claim.specs.declared.line.Parsed.{Parsed}
use Rattle.packing.specs.PackedCheck.{packed_check_answer}
use Rattle.refusal.specs.LineRefusals.{line_refusal_number, line_refusal_values}
use Rattle.refusal.specs.Refusals.{Outcome}
use Rattle.refusal.specs.declared.line.LineRefusal.{LineRefusal}
use Rattle.refusal.specs.declared.line.LineRefusal.TheVariants.{BadLine, Refused}
use Rattle.text.specs.Refused.{refused}
use Rattle.text.specs.Text.{ascii}

-- what a claim is answered: it is accepted, or refused
abbrev pub Answer : Type 0
Answer = Result ⊤ LineRefusal

-- .. by the check of its packed bytes
abbrev pub checked : Outcome → Answer
checked (Ok _) = Ok tt
checked (Err r) = Err (Refused r)

-- the answer to the bytes s of standard input, by what their line says
abbrev pub claimed : Option Parsed → List ℕ → Answer
claimed None s = Err BadLine
claimed (Some c) s = checked (packed_check_answer c.bits (digest_at s c.digest) (packed_from s c.digest))

unfoldable pub answer_to : List ℕ → Answer
answer_to s = claimed (parse_of s) s

-- the papers' number of an answer, 0 for none, and its values: "a bad line is refusal 1"
abbrev pub answer_number : Answer → ℕ
answer_number (Ok _) = 0
answer_number (Err r) = line_refusal_number r

abbrev pub answer_values : Answer → List ℕ
answer_values (Ok _) = []
answer_values (Err r) = line_refusal_values r

-- "prints `accepted` or the refusal as `rows` does"
abbrev pub printed : Answer → List ℕ
printed (Ok _) = ascii "accepted\n"
printed (Err r) = refused (line_refusal_number r)

-- what the program prints for the bytes s of standard input
unfoldable pub prints : List ℕ → List ℕ
prints s = printed (answer_to s)

-- the longest line, the packed bytes of the longest records, and one byte more
abbrev pub input_room : ℕ
input_room = 45197

-- Of standard input s at most m bytes are read; the answer to them is the answer to s.
abbrev pub AnswersAll : Type 0
AnswersAll = (m : ℕ) (s : List ℕ) → input_room ≤ m → answer_to (take m s) ≡ answer_to s
