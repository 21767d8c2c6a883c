-- The row of a number (document 01, "Rows").
use Rattle.std.specs.Prelude.{cond, ℕ, ◌+◌, ◌-◌, ◌*◌, eqb, ltb}
use Rattle.block.specs.StepForms.{ff_form, gg_form, p0_form, p1_form, q_form, result_form, ss2_form, tt1_form, tt2_form, u_form, w_form, w_prime_form}
use Rattle.block.specs.Wires.{StatePosition, eight_from, result_at, result_first, stands}
use Rattle.block.specs.declared.step.Step.TheVariants.{Start, Message, Q, P1, W, WPrime, U, Ss2, Ff, Gg, Tt1, Tt2, P0, Result, Digest, Appended}
use Rattle.block.specs.declared.step.Step.{Step}
use Rattle.circuit.specs.Circuits.{appended_form, block_count, content_form, message_of}
use Rattle.circuit.specs.Places.{place_at}
use Rattle.circuit.specs.Wires.{block_first, digest_first, start_first}
use Rattle.circuit.specs.declared.circuits.Circuit.{Circuit}
use Rattle.circuit.specs.declared.message.MessageSpan.{MessageSpan}
use Rattle.forms.specs.Rows.{Row, row_of}
use Rattle.forms.specs.declared.form.Form.TheVariants.{Fixed, Equal}
use Rattle.forms.specs.declared.form.Form.{Form}
use Rattle.sm3.specs.Message.{message}
use Rattle.sm3.specs.Sm3.{start, word_of}
use Rattle.sm3.specs.Words.{bit}

-- which bit of its message bit b of block i is
abbrev pub message_bit : MessageSpan → ℕ → ℕ → ℕ
message_bit m i b = 512 * (i - m.begin) + b

-- "its record wires by bit rows and its padding wires by fixed rows": bit b of block i, which is one of the message m
unfoldable pub message_form : Circuit → MessageSpan → ℕ → ℕ → Form
message_form c m i b =
    cond (ltb (message_bit m i b) m.bits) (content_form c i b)
    (Fixed (record { 0 = block_first i + b }) (message m.bits (λ i. 0) (message_bit m i b)))

-- "Block 0 begins with the start words, each later block with the result of the one before": with the start words where its
-- message begins
abbrev pub begins_at : MessageSpan → ℕ → ℕ
begins_at m i = cond (eqb i m.begin) start_first (block_first (i - 1) + result_at)

unfoldable pub begins : MessageSpan → ℕ → StatePosition
begins m i = eight_from (begins_at m i)

-- "256 fixed start rows": line l of start word k
unfoldable pub start_form : ℕ → ℕ → Form
start_form k l = Fixed (record { 0 = start_first + 32 * k + l }) (bit l (word_of start k))

-- "256 rows (digest wire - last result wire) × 1 = 0": line l of word k, where the last block's first wire is F
unfoldable pub digest_form : ℕ → ℕ → ℕ → Form
digest_form F k l = Equal (record { 0 = digest_first + 32 * k + l }) (record { 0 = result_first F k + l })

-- the form of line l of the step's word j in block i
unfoldable pub form_of : Circuit → ℕ → Step → ℕ → ℕ → Form
form_of c i Start j l = start_form j l
form_of c i Message j l = message_form c (message_of c i) i (32 * j + l)
form_of c i Q j l = q_form (block_first i) j l
form_of c i P1 j l = p1_form (block_first i) j l
form_of c i W j l = w_form (block_first i) j l
form_of c i WPrime j l = w_prime_form (block_first i) j l
form_of c i U j l = u_form (block_first i) (stands (block_first i) (begins (message_of c i) i) j) j l
form_of c i Ss2 j l = ss2_form (block_first i) (stands (block_first i) (begins (message_of c i) i) j) j l
form_of c i Ff j l = ff_form (block_first i) (stands (block_first i) (begins (message_of c i) i) j) j l
form_of c i Gg j l = gg_form (block_first i) (stands (block_first i) (begins (message_of c i) i) j) j l
form_of c i Tt1 j l = tt1_form (block_first i) (stands (block_first i) (begins (message_of c i) i) j) j l
form_of c i Tt2 j l = tt2_form (block_first i) (stands (block_first i) (begins (message_of c i) i) j) j l
form_of c i P0 j l = p0_form (block_first i) j l
form_of c i Result j l = result_form (block_first i) (begins (message_of c i) i) j l
form_of c i Digest j l = digest_form (block_first (block_count c - 1)) j l
form_of c i Appended j l = appended_form c j

-- the form and the row of row number k
unfoldable pub form_at : Circuit → ℕ → Form
form_at c k =
    form_of c (place_at (block_count c) k).block (place_at (block_count c) k).step (place_at (block_count c) k).index
    (place_at (block_count c) k).line

unfoldable pub row_at : Circuit → ℕ → Row
row_at c k = row_of (form_at c k)
