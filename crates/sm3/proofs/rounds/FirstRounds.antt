-- Round j reads Wj and W(j+4) of the expansion and nothing else. So with an array of the words before W(j+4), that word and the round
-- take a block from round j to round j + 1, whichever round it is.
use Rattle.std.proofs.Common.{◌≡◌, ℕ, ◌+◌, ◌<◌, List, length, get_or, take, set, sym, refl, ap, ◌∙◌, add-one, arith, get_or-take}
use Rattle.sm3.specs.Reached.{Reached}
use Rattle.sm3.specs.Sm3.{◌⊕◌, expansion, next_word, w_prime, round_of, rounds}
use Rattle.sm3.specs.declared.state.State.{State}
use Rattle.sm3.proofs.expansion.FirstWords.{Holds, W, W-next, get_or-expansion, store_W}
use Rattle.encoding.specs.Bits.{bit_of_bytes}

-- with the first four words a block stands before round 0
pub reached_first : (bytes w : List ℕ) (v : State) → length w ≡ 68 → take 4 w ≡ expansion (bit_of_bytes bytes) 4
    → Reached bytes v 0 w v
unfolding rounds
reached_first bytes w v l first = record { room = l; words = first; state = refl }

-- one round more
pub rounds-next : (w : List ℕ) (v : State) (j : ℕ) → rounds w v (j + 1) ≡ round_of j (get_or w j 0) (w_prime w j) (rounds w v j)
unfolding rounds
rounds-next w v j = rw add-one

-- a word of an array that has the first m words of an expansion
get_or-first : (bits : ℕ → ℕ) (w : List ℕ) (m j : ℕ) → j < m → take m w ≡ expansion bits m → get_or w j 0 ≡ W bits j
get_or-first bits w m j h e =
    sym (get_or-take m w j 0 h) ∙ ap (λ (l : List ℕ). get_or l j 0) e ∙ get_or-expansion bits m j h

-- the next word and the round on it
pub reached_next : (bytes : List ℕ) (v : State) (w : List ℕ) (s s' : State) (j x : ℕ) → j < 64
    → x ≡ next_word (bit_of_bytes bytes) w (j + 4) → s' ≡ round_of j (get_or w j 0) (get_or w j 0 ⊕ x) s
    → Reached bytes v j w s → Reached bytes v (j + 1) (set w (j + 4) x) s'
unfolding w_prime
reached_next bytes v w s s' j x h next made r =
    let bits : ℕ → ℕ = bit_of_bytes bytes in
    let all : List ℕ = expansion bits 68 in
    let word : x ≡ W bits (j + 4) = next ∙ W-next bits w (j + 4) r.words in
    let here : get_or w j 0 ≡ get_or all j 0 =
    get_or-first bits w (j + 4) j (omega arith) r.words ∙ sym (get_or-expansion bits 68 j (omega arith)) in
    let there : x ≡ get_or all (j + 4) 0 = word ∙ sym (get_or-expansion bits 68 (j + 4) (omega arith)) in
    let ahead : j + 1 + 4 ≡ j + 4 + 1 = omega arith in
    let stored : Holds bits (set w (j + 4) x) (j + 4 + 1) =
    store_W (j + 4 + 1) (omega arith) word (record { full = r.room; words = r.words }) in
    record {
      room = stored.full;
      words = rw ahead stored.words;
      state = rw rounds-next (cc (made, here, there, r.state));
    }
