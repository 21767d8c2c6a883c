-- What `steps` prints of a row (docs/STEPS.md): `row,block,step,index,bit,form`.
use Rattle.std.specs.Prelude.{Bool, cond, false, true, List, [], ◌∷◌, ◌++◌, None, Option, Some, ℕ, ◌+◌, ◌/◌, ltb}
use Rattle.std.specs.Bool.{then_some}
use Rattle.block.specs.Steps.{lines}
use Rattle.block.specs.declared.place.Place.{Place}
use Rattle.block.specs.declared.step.Step.{Step}
use Rattle.block.specs.declared.step.Step.TheVariants.{Start, Message, Q, P1, W, WPrime, U, Ss2, Ff, Gg, Tt1, Tt2, P0, Result, Digest, Appended}
use Rattle.circuit.specs.Circuit.{form_at}
use Rattle.circuit.specs.Circuits.{block_count}
use Rattle.circuit.specs.Places.{place_at}
use Rattle.circuit.specs.declared.circuits.Circuit.{Circuit}
use Rattle.forms.specs.declared.form.Form.{Form}
use Rattle.forms.specs.declared.form.Form.TheVariants.{Fixed, Bit, XorOfTwo, XorOfThree, Majority, Choice, Sum, Equal, Difference}
use Rattle.text.specs.Decimal.{field}
use Rattle.text.specs.Text.{ascii, comma, line_feed}

-- whether a step is of a block
abbrev pub in_block : Step → Bool
in_block Start = false
in_block Message = true
in_block Q = true
in_block P1 = true
in_block W = true
in_block WPrime = true
in_block U = true
in_block Ss2 = true
in_block Ff = true
in_block Gg = true
in_block Tt1 = true
in_block Tt2 = true
in_block P0 = true
in_block Result = true
in_block Digest = false
in_block Appended = false

-- the name of a step, and of a form
abbrev pub step_name : Step → List ℕ
step_name Start = ascii "start"
step_name Message = ascii "message"
step_name Q = ascii "q"
step_name P1 = ascii "p1"
step_name W = ascii "w"
step_name WPrime = ascii "wprime"
step_name U = ascii "u"
step_name Ss2 = ascii "ss2"
step_name Ff = ascii "ff"
step_name Gg = ascii "gg"
step_name Tt1 = ascii "tt1"
step_name Tt2 = ascii "tt2"
step_name P0 = ascii "p0"
step_name Result = ascii "result"
step_name Digest = ascii "digest"
step_name Appended = ascii "appended"

abbrev pub form_name : Form → List ℕ
form_name (Fixed w b) = ascii "fixed"
form_name (Bit w) = ascii "bit"
form_name (XorOfTwo x y r) = ascii "xor of two"
form_name (XorOfThree x y z r) = ascii "xor of three"
form_name (Majority x y z r) = ascii "majority"
form_name (Choice x y z r) = ascii "choice"
form_name (Sum s k r) = ascii "sum"
form_name (Equal x y) = ascii "equal"
-- document 02, request 5: "a sum row of value minus bits"
form_name (Difference d bound n r) = ascii "sum"

-- the column of a step, with the comma after it, and of a form, with the line feed
abbrev pub step_text : Step → List ℕ
step_text s = step_name s ++ (comma ∷ [])

abbrev pub form_text : Form → List ℕ
form_text f = form_name f ++ (line_feed ∷ [])

-- a number that may be left out, and the byte after it
unfoldable pub optional : Option ℕ → ℕ → List ℕ
optional (Some x) stop = field x stop
optional None stop = stop ∷ []

-- the block of a place, if its step is of a block
abbrev pub block_of : Place → Option ℕ
block_of p = cond (in_block p.step) (Some p.block) None

-- a word of 64 rows has two at each of its positions, any other one, so this is the position of a line. The carries of a sum
-- stand at 32 and 33; what comes behind them is its equation, which is of all positions
abbrev pub position : Place → ℕ
position p = p.line / (1 + lines p.step p.index / 64)

-- .. if it has one
abbrev pub position_of : Place → Option ℕ
position_of p = then_some (ltb (position p) 34) (position p)

-- `row,block,step,` of row k at place p, and `index,bit,form` of a row of form f
unfoldable pub where_text : ℕ → Place → List ℕ
where_text k p = field k comma ++ optional (block_of p) comma ++ step_text p.step

unfoldable pub what_text : Place → Form → List ℕ
what_text p f = field p.index comma ++ optional (position_of p) comma ++ form_text f

-- the line of row k of a circuit
unfoldable pub step_line : Circuit → ℕ → List ℕ
step_line c k = where_text k (place_at (block_count c) k) ++ what_text (place_at (block_count c) k) (form_at c k)

-- how many bytes it takes at most
abbrev pub step_room : ℕ
step_room = 106
