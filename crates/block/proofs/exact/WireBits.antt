-- Every wire of a block is 0 or 1: a bit of a word, a carry or a bit of the message.
use mathlib.Core.Bool.{Bool, true, false, cond}
use mathlib.Core.List.{List}
use Prim.Native.Nat.{ℕ, ◌+◌, ◌-◌, ◌*◌, ◌/◌, ◌%◌, ◌<◌}
use native.Mathlib.Omega.{arith}
use lib.Dec.{ltb}
use Rattle.block.specs.BlockWires.{block_wires, computed_wires, expansion_wires, round_wires, state_wires}
use Rattle.block.specs.MessageWires.{message_wires}
use Rattle.encoding.specs.Sequence.{beside, grid}
use Rattle.forms.specs.WordWires.{carry_wires, sum_wires, word_wires}
use Rattle.sm3.proofs.Bits.{bit_lt}
use Rattle.sm3.specs.Message.{block_bits}
use Rattle.sm3.specs.declared.state.State.{State}

abbrev pub Bits : (ℕ → ℕ) → Type 0
Bits s = (k : ℕ) → s k < 2

either : (t : Bool) (x y : ℕ) → x < 2 → y < 2 → cond t x y < 2
either true x y hx hy = hx
either false x y hx hy = hy

pub beside-bits : (n : ℕ) (s t : ℕ → ℕ) → Bits s → Bits t → Bits (beside n s t)
unfolding beside
beside-bits n s t hs ht k = either (ltb k n) (s k) (t (k - n)) (hs k) (ht (k - n))

grid-bits : (m : ℕ) (s : ℕ → ℕ → ℕ) → ((j : ℕ) → Bits (s j)) → Bits (grid m s)
unfolding grid
grid-bits m s h k = h (k / m) (k % m)

word-bits : (X : ℕ) → Bits (word_wires X)
unfolding word_wires
word-bits X i = bit_lt i X

sum-bits : (s : ℕ) → Bits (sum_wires s)
unfolding sum_wires carry_wires
sum-bits s = beside-bits _ _ _ (word-bits _) (λ i. omega arith)

pub state_bits : (S : State) → Bits (state_wires S)
unfolding state_wires
state_bits S = grid-bits _ _ (λ k. word-bits _)

expansion-bits : (w : List ℕ) (j : ℕ) → Bits (expansion_wires w j)
unfolding expansion_wires
expansion-bits w j = beside-bits _ _ _ (word-bits _) (beside-bits _ _ _ (word-bits _) (word-bits _))

round-bits : (w : List ℕ) (j : ℕ) (S : State) → Bits (round_wires w j S)
unfolding round_wires
round-bits w j S =
    beside-bits _ _ _ (sum-bits _)
    (beside-bits _ _ _ (word-bits _)
    (beside-bits _ _ _ (word-bits _)
    (beside-bits _ _ _ (word-bits _)
    (beside-bits _ _ _ (sum-bits _)
    (beside-bits _ _ _ (sum-bits _) (word-bits _))))))

block-bits : (b : ℕ → ℕ) (B : State) → Bits b → Bits (block_wires b B)
unfolding block_wires computed_wires
block-bits b B h =
    beside-bits _ _ _ h
    (beside-bits _ _ _ (grid-bits _ _ (λ j. expansion-bits _ _))
    (beside-bits _ _ _ (grid-bits _ _ (λ j. word-bits _))
    (beside-bits _ _ _ (grid-bits _ _ (λ j. round-bits _ _ _))
    (state_bits _))))

-- the wires of a message's blocks
pub message-bits : (m : ℕ → ℕ) → Bits m → Bits (message_wires m)
unfolding message_wires block_bits
message-bits m h = grid-bits _ _ (λ i. block-bits _ _ (λ k. h (512 * i + k)))
