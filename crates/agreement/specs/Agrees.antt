-- Entries held against values, and words read off entries: devices of the contracts of the check's parts. What `check` answers is
-- said without them.
use Rattle.std.specs.Prelude.{◌≡◌, ℕ, ◌+◌, ◌*◌, ◌<◌, ◌≤◌, List, slice_index}
use Rattle.assignment.specs.Assignment.{entry}
use Rattle.block.specs.BlockWires.{round_wires, state_wires}
use Rattle.block.specs.Steps.{rows_before_round}
use Rattle.block.specs.Wires.{w_primes_at, result_at, round_width, rounds_at}
use Rattle.encoding.specs.Bits.{number}
use Rattle.encoding.specs.Sequence.{grid}
use Rattle.forms.specs.WordWires.{word_wires}
use Rattle.sm3.specs.Sm3.{w_prime, rounds, word_of, xor_state}
use Rattle.sm3.specs.declared.state.State.{State}

-- the n wires from w on have the first values of s
pub record Agrees (w n : ℕ) (s : ℕ → ℕ) (bytes : List ℕ) : Type 0 where
  pub entries : (k : ℕ) → k < n → entry bytes (w + k) ≡ s k

-- the n wires from w on are bits
pub record Bits (w n : ℕ) (bytes : List ℕ) : Type 0 where
  pub each : (i : ℕ) → i < n → entry bytes (w + i) < 2

-- .. and they are those of the number x
pub record BitsOf (w n x : ℕ) (bytes : List ℕ) : Type 0 where
  pub bits : (i : ℕ) → i < n → entry bytes (w + i) < 2
  pub value : x ≡ number n (λ i. entry bytes (w + i))

-- .. of n words, one after the other
pub record BitsOfWords (w n : ℕ) (words bytes : List ℕ) : Type 0 where
  pub each : (j : ℕ) → j < n → BitsOf (w + 32 * j) 32 (slice_index words j) bytes

-- .. of the words A to H
pub record BitsOfState (w : ℕ) (s : State) (bytes : List ℕ) : Type 0 where
  pub each : (k : ℕ) → k < 8 → BitsOf (w + 32 * k) 32 (word_of s k) bytes

-- How far the wires of the block whose first wire is F agree, past its expansion, with what the words x of the expansion and the words v
-- that it begins with make them, in rows: up to a word W', up to a round, or to the end.
pub data PastExpansion (F : ℕ) (x : List ℕ) (v : State) (bytes : List ℕ) (rows : ℕ) : Type 0 where
  to_word : (c : ℕ) → c ≤ 64 → Agrees (F + w_primes_at) (c * 32) (grid 32 (λ j. word_wires (w_prime x j))) bytes → rows ≡ 32 * c
      → PastExpansion F x v bytes rows
  to_round : (c : ℕ) → c ≤ 64 → Agrees (F + w_primes_at) 2048 (grid 32 (λ j. word_wires (w_prime x j))) bytes
      → Agrees (F + rounds_at) (c * round_width) (grid round_width (λ j. round_wires x j (rounds x v j))) bytes → rows ≡ 2048 + rows_before_round c
      → PastExpansion F x v bytes rows
  to_end : Agrees (F + w_primes_at) 2048 (grid 32 (λ j. word_wires (w_prime x j))) bytes
      → Agrees (F + rounds_at) (64 * round_width) (grid round_width (λ j. round_wires x j (rounds x v j))) bytes
      → Agrees (F + result_at) 256 (state_wires (xor_state (rounds x v 64) v)) bytes → rows ≡ 2048 + 19520 + 256
      → PastExpansion F x v bytes rows
