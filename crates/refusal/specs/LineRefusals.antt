-- The papers' number of a program's refusal and its values (document 01, "Refusals in checking order").
use Rattle.std.specs.Prelude.{List, [], ℕ}
use Rattle.refusal.specs.Refusals.{refusal_number, refusal_values}
use Rattle.refusal.specs.declared.line.LineRefusal.{LineRefusal}
use Rattle.refusal.specs.declared.line.LineRefusal.TheVariants.{BadLine, Refused}

-- "1. The program's line is not .."; document 02, request 1: "a bad line is refusal 1"
abbrev pub line_refusal_number : LineRefusal → ℕ
line_refusal_number BadLine = 1
line_refusal_number (Refused r) = refusal_number r

abbrev pub line_refusal_values : LineRefusal → List ℕ
line_refusal_values BadLine = []
line_refusal_values (Refused r) = refusal_values r
