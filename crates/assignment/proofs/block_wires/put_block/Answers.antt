-- The five parts are written one after the other. The wires of W0 to W15 are the block's bits, since those write the words.
use Rattle.std.proofs.Common.{◌≡◌, ℕ, ◌+◌, ◌*◌, ◌/◌, ◌%◌, ◌<◌, ◌≤◌, List, get_or, length, take, refl, ap, ◌∙◌, subst, arith}
use Rattle.std.proofs.lemmas.List.{length-take-le}
use native.Mathlib.Nat.{div-add-mod}
use Rattle.assignment.proofs.Writes.{wrote_as, wrote-same, wrote_then}
use Rattle.assignment.specs.Wrote.{Wrote}
use Rattle.block.specs.BlockWires.{block_wires, computed_wires, round_wires, state_wires}
use Rattle.block.specs.Wires.{expansion_at, w_primes_at, result_at, round_width, rounds_at}
use Rattle.encoding.specs.Bits.{number}
use Rattle.encoding.specs.Sequence.{grid}
use Rattle.forms.specs.WordWires.{word_wires}
use Rattle.sm3.proofs.WordBits.{bit-number}
use Rattle.sm3.proofs.expansion.FirstWords.{get_or-block}
use Rattle.sm3.specs.Sm3.{block, block_word, expansion, w_prime, rounds, xor_state}
use Rattle.sm3.specs.Words.{bit}
use Rattle.assignment.proofs.block_wires.put_block.Goals as goal

-- the wires of W0 to W15 are the block's bits
block-bits : (bits : ℕ → ℕ) (x : List ℕ) → ((k : ℕ) → k < 512 → bits k < 2) → x ≡ expansion bits 16
    → (k : ℕ) → k < 512 → grid 32 (λ j. word_wires (get_or x j 0)) k ≡ bits k
unfolding grid word_wires block_word
block-bits bits x h e k l =
    let j : ℕ = k / 32 in
    let word : get_or x j 0 ≡ number 32 (λ i. bits (32 * j + i)) =
    ap (λ y. get_or y j 0) e ∙ get_or-block bits 16 j (omega arith) (omega arith) in
    ap (bit (k % 32)) word
    ∙ bit-number (λ i. bits (32 * j + i)) (k % 32) (λ i b. h (32 * j + i) (omega arith)) (omega arith)
    ∙ ap bits (div-add-mod k 32)

-- .. as they are written
bits_wrote : {w : ℕ} {out out' : List ℕ} (bits : ℕ → ℕ) (x : List ℕ) → ((k : ℕ) → k < 512 → bits k < 2) → 16 ≤ length x
    → take 16 x ≡ expansion bits 16
    → Wrote w (32 * length (take 16 x)) (grid 32 (λ j. word_wires (get_or (take 16 x) j 0))) out out' → Wrote w 512 bits out out'
bits_wrote {w} {out} {out'} bits x h full e wrote =
    wrote-same bits (block-bits bits (take 16 x) h e)
    (subst (λ n. Wrote w (32 * n) (grid 32 (λ j. word_wires (get_or (take 16 x) j 0))) out out') (length-take-le 16 x full) wrote)

pub returns : goal.returns
unfolding block block_wires computed_wires
returns c =
    let a = c.args in
    let w = a.w.0 in
    let v = a.v in
    λ bits h e.
    let x = c.put_expanded_words.ensures bits e in
    let result =
    c.bitxor-r.ensures
    ∙ ap (λ s. xor_state s v) (c.put_rounds-s.ensures.value ∙ ap (λ x. rounds x v 64) x.0) in (
      result,
      wrote_then (w + expansion_at) refl (bits_wrote bits a.words h (omega arith) e c.put_words.ensures)
          (wrote_then (w + w_primes_at) (omega arith) x.1
          (wrote_then (w + rounds_at) (omega arith)
          (wrote_as (ap (λ x. grid 32 (λ j. word_wires (w_prime x j))) x.0) c.put_w_primes.ensures)
          (wrote_then (w + result_at) (omega arith)
          (wrote_as (ap (λ x. grid round_width (λ j. round_wires x j (rounds x v j))) x.0) c.put_rounds-s.ensures.wrote)
          (wrote_as (ap state_wires result) c.put_state.ensures)))),
    )
