-- Where all words W' agree the rounds decide how far the wires agree, and where all rounds do, the result.
use Rattle.std.proofs.Common.{◌≡◌, ℕ, ◌+◌, ◌*◌, ◌≤◌, List, refl, ap, ◌∙◌, arith}
use Rattle.block.specs.BlockWires.{round_wires, state_wires}
use Rattle.block.specs.Steps.{rows_before_round}
use Rattle.block.specs.Wires.{w_primes_at, result_at, round_width, rounds_at}
use Rattle.encoding.specs.Sequence.{grid}
use Rattle.forms.specs.WordWires.{word_wires}
use Rattle.agreement.proofs.Agreeing.{agrees_as}
use Rattle.agreement.specs.Agrees.{Agrees, PastExpansion, to_end, to_round, to_word}
use Rattle.sm3.specs.Sm3.{w_prime, rounds, xor_state}
use Rattle.sm3.specs.declared.state.State.{State}
use Rattle.agreement.proofs.past_expansion.rows_past_expansion.Goals as goal

-- All of the words W' that were asked agree, and c rounds, which have n rows.
module _ (F : ℕ) (x : List ℕ) (v : State) {w_primes c n : ℕ} {bytes : List ℕ} {S : State}
    (primed : (w_primes ≤ 64) × Agrees (F + w_primes_at) (w_primes * 32) (grid 32 (λ j. word_wires (w_prime x j))) bytes) (all : 64 ≤ w_primes)
    (rounded : (c ≤ 64) × (S ≡ rounds x v c)
    × Agrees (F + rounds_at) (c * round_width) (grid round_width (λ j. round_wires x j (rounds x v j))) bytes)
    (rows : n ≡ rows_before_round c) where
  all_w_primes : Agrees (F + w_primes_at) 2048 (grid 32 (λ j. word_wires (w_prime x j))) bytes
  all_w_primes =
      let whole : w_primes ≡ 64 = omega arith in rw whole at primed.1

  round_reached : PastExpansion F x v bytes (2048 + n)
  round_reached = to_round c rounded.0 all_w_primes rounded.2 (ap (λ r. 2048 + r) rows)

  end_reached : {s : State} → 64 ≤ c → s ≡ xor_state S v → Agrees (F + result_at) 256 (state_wires s) bytes → PastExpansion F x v bytes (2048 + n + 256)
  end_reached last result stands =
      let whole : c ≡ 64 = omega (arith, rounded.0) in
      to_end all_w_primes (rw whole at rounded.2)
      (agrees_as (ap state_wires (result ∙ ap (λ S. xor_state S v) (rounded.1 ∙ ap (rounds x v) whole))) stands)
      (omega (arith, rows ∙ ap rows_before_round whole))

pub returns-then-w_primes-lt64 : goal.returns-then-w_primes-lt64
returns-then-w_primes-lt64 c =
    let primed = c.w_primes_agree-w_primes.ensures in to_word _ primed.0 primed.1 refl

pub returns-then-rounds-lt64 : goal.returns-then-rounds-lt64
returns-then-rounds-lt64 c =
    let a = c.args in
    round_reached a.first.0 a.x.now a.v c.w_primes_agree-w_primes.ensures c.if-w_primes-lt64.false c.rounds_agree-rounds.ensures
    c.rows_before_round-before_round.ensures.0

pub returns-then-not-state_agrees : goal.returns-then-not-state_agrees
returns-then-not-state_agrees c =
    let a = c.args in
    round_reached a.first.0 a.x.now a.v c.w_primes_agree-w_primes.ensures c.if-w_primes-lt64.false c.rounds_agree-rounds.ensures
    c.rows_before_round-before_round.ensures.0

pub returns : goal.returns
returns c =
    let a = c.args in
    end_reached a.first.0 a.x.now a.v c.w_primes_agree-w_primes.ensures c.if-w_primes-lt64.false c.rounds_agree-rounds.ensures
    c.rows_before_round-before_round.ensures.0 c.if-rounds-lt64.false c.bitxor-result.ensures
    (c.state_agrees.ensures c.if-not-state_agrees.false)
