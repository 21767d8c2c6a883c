-- A block's rows hold exactly where its wires agree. The words that it begins with are carried and its 512 bits agree; then
-- come the expansion, the words W', the rounds and the results, each given those before it. So the rows up to some word of the
-- expansion, up to some W' or up to some round hold where the wires before it agree, whatever the later ones are.
use mathlib.Core.Logic.{◌↔◌}
use mathlib.Core.Path.{subst, sym}
use Prim.Native.Nat.{ℕ, ◌+◌, ◌*◌, ◌<◌, ◌≤◌}
use native.Mathlib.Nat.{add_assoc, mul_comm}
use native.Mathlib.Omega.{arith}
use lib.Dec.{lit≤}
use Rattle.block.specs.Steps.{computed_rows, rows_before_round}
use Rattle.block.proofs.exact.BlockExpansion.{expansion-run, expansion_forms, w_primes_carried, w_primes-run, words_carried}
use Rattle.block.proofs.exact.BlockRounds.{rounds_end, rounds-run, rounds_forms, rows_before_round_le}
use Rattle.block.proofs.exact.FirstRows.{holds-first, holds_then}
use Rattle.block.proofs.exact.States.{CarriesState, carries_nth, xor_nth}
use Rattle.block.specs.BlockWires.{computed_wires, expansion_wires, round_wires, state_wires}
use Rattle.block.specs.StepForms.{result_form, w_prime_form}
use Rattle.block.specs.Wires.{computed_per_block, expansion_at, expansion_width, w_primes_at, result_at, result_first, round_width, rounds_at, stands, StatePosition}
use Rattle.encoding.specs.Sequence.{beside, grid}
use Rattle.forms.proofs.exact.Carries.{Makes, makes_xor_two}
use Rattle.forms.proofs.exact.Parts.{agree_past, then_at}
use Rattle.forms.proofs.exact.Runs.{Agree, Holds, Judged, each}
use Rattle.forms.specs.WordWires.{word_wires}
use Rattle.forms.specs.declared.form.Form.{Form}
use Rattle.sm3.specs.Sm3.{block, expansion, w_prime, rounds, word_of, xor_state}
use Rattle.sm3.specs.declared.state.State.{State}

-- the rows of a block after those of its 512 bits
unfoldable pub block_forms : ℕ → StatePosition → ℕ → Form
block_forms F v =
    beside 9984 (grid 192 (λ j. expansion_forms F (16 + j)))
    (beside 2048 (grid 32 (w_prime_form F))
    (beside 19520 (rounds_forms F v)
    (grid 32 (result_form F v))))

module _ (a : ℕ → ℕ) (J : Judged a) (F : ℕ) (v : StatePosition) (B : State) (begun : CarriesState a v B) where
  module _ (S : State) (done : CarriesState a (stands F v 64) S) where
    makes_result : (k : ℕ) → k < 8 → Makes a 32 (result_form F v k) (result_first F k) (word_of (xor_state S B) k)
    unfolding result_form
    makes_result k l =
        subst (Makes a 32 (result_form F v k) (result_first F k)) (sym (xor_nth S B k l))
        (makes_xor_two a J (carries_nth done k l) (carries_nth begun k l) (result_first F k))

    results_run : Holds a 256 (grid 32 (result_form F v)) ↔ Agree a (F + result_at) 256 (state_wires (xor_state S B))
    unfolding state_wires
    results_run = each a (F + result_at) 8 32 32 _ _ (λ k l earlier. (makes_result k l).run)

  module _ (b : ℕ → ℕ) (bits : (k : ℕ) → k < 512 → b k < 2) (given : Agree a F 512 b) where
    pub block_run : Holds a computed_rows (block_forms F v) ↔ Agree a (F + expansion_at) computed_per_block (computed_wires b B)
    unfolding block_forms computed_wires block
    block_run =
        then_at a (F + expansion_at) (F + w_primes_at) 9984 21824 4992 17024 _ _ _ _ (omega arith) (expansion-run a J F b bits given 52 (lit≤ tt))
        (λ expanded.
        let words = words_carried a J F b bits given expanded in
        then_at a (F + w_primes_at) (F + rounds_at) 2048 19776 2048 14976 _ _ _ _ (omega arith) (w_primes-run a J F (expansion b 68) words 64 (lit≤ tt))
        (λ primed.
        let w_primes = w_primes_carried a J F (expansion b 68) words primed in
        then_at a (F + rounds_at) (F + result_at) 19520 256 14720 256 _ _ _ _ (omega arith)
        (rounds-run a J F (expansion b 68) words w_primes v B begun 64 (lit≤ tt))
        (λ rounded. results_run _ (rounds_end a J F (expansion b 68) words w_primes v B begun rounded))))

    -- the rows of the first c words of the expansion hold where their wires agree
    pub expanded_hold : (c : ℕ) → c ≤ 52
        → Agree a (F + expansion_at) (c * expansion_width) (grid expansion_width (λ j. expansion_wires (expansion b 68) (16 + j)))
        → Holds a (192 * c) (block_forms F v)
    unfolding block_forms
    expanded_hold c l expanded =
        subst (λ n. Holds a n (block_forms F v)) (mul_comm c 192)
        ((holds-first a (c * 192) 9984 _ _ (omega arith)).1 ((expansion-run a J F b bits given c l).1 expanded))

    -- .. and, with the whole expansion, those of the first c words W'
    pub w_primes_hold : Agree a (F + expansion_at) (52 * expansion_width) (grid expansion_width (λ j. expansion_wires (expansion b 68) (16 + j)))
        → (c : ℕ) → c ≤ 64
        → Agree a (F + w_primes_at) (c * 32) (grid 32 (λ j. word_wires (w_prime (expansion b 68) j)))
        → Holds a (9984 + c * 32) (block_forms F v)
    unfolding block_forms
    w_primes_hold expanded c l primed =
        holds_then a 9984 (c * 32) _ _ ((expansion-run a J F b bits given 52 (lit≤ tt)).1 expanded)
        ((holds-first a (c * 32) 2048 _ _ (omega arith)).1
        ((w_primes-run a J F (expansion b 68) (words_carried a J F b bits given expanded) c l).1 primed))

    -- .. and, with the words W', those of the first c rounds
    pub rounds_hold : Agree a (F + expansion_at) (52 * expansion_width) (grid expansion_width (λ j. expansion_wires (expansion b 68) (16 + j)))
        → Agree a (F + w_primes_at) 2048 (grid 32 (λ j. word_wires (w_prime (expansion b 68) j)))
        → (c : ℕ) → c ≤ 64
        → Agree a (F + rounds_at) (c * round_width) (grid round_width (λ j. round_wires (expansion b 68) j (rounds (expansion b 68) B j)))
        → Holds a (9984 + 2048 + rows_before_round c) (block_forms F v)
    unfolding block_forms
    rounds_hold expanded primed c l rounded =
        let words = words_carried a J F b bits given expanded in
        let w_primes = w_primes_carried a J F (expansion b 68) words primed in
        subst (λ n. Holds a n (block_forms F v)) (sym (add_assoc 9984 2048 (rows_before_round c)))
        (holds_then a 9984 (2048 + rows_before_round c) _ _ ((expansion-run a J F b bits given 52 (lit≤ tt)).1 expanded)
        (holds_then a 2048 (rows_before_round c) _ _ ((w_primes-run a J F (expansion b 68) words 64 (lit≤ tt)).1 primed)
        ((holds-first a (rows_before_round c) 19520 _ _ (rows_before_round_le c l)).1
        ((rounds-run a J F (expansion b 68) words w_primes v B begun c l).1 rounded))))

pub results_agree : (a : ℕ → ℕ) (F : ℕ) (b : ℕ → ℕ) (B : State) → Agree a (F + expansion_at) computed_per_block (computed_wires b B)
    → Agree a (F + result_at) 256 (state_wires (block b B))
unfolding computed_wires
results_agree a F b B e =
    agree_past a (F + rounds_at) (F + result_at) 14720 256 _ _ (omega arith)
    (agree_past a (F + w_primes_at) (F + rounds_at) 2048 14976 _ _ (omega arith)
    (agree_past a (F + expansion_at) (F + w_primes_at) 4992 17024 _ _ (omega arith) e))
