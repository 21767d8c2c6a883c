-- A block's wires, worked out from its 512 bits and the words that it begins with (document 01, "Wires").
use Rattle.std.specs.Prelude.{List, ℕ, ◌+◌, ◌*◌, get_or}
use Rattle.block.specs.Wires.{expansion_width, round_width}
use Rattle.encoding.specs.Sequence.{beside, grid}
use Rattle.forms.specs.WordWires.{sum_wires, word_wires}
use Rattle.sm3.specs.Sm3.{FF, GG, P0, P1, SS2, block, truncated, expansion, mixed, w_prime, rounds, sum_tt1, sum_tt2, sum_u, word_of}
use Rattle.sm3.specs.declared.state.State.{State}

-- the words of a state, A to H
unfoldable pub state_wires : State → ℕ → ℕ
state_wires s = grid 32 (λ k. word_wires (word_of s k))

-- "for each j from 16 to 67: q, P1(q), Wj", of the expansion w
unfoldable pub expansion_wires : List ℕ → ℕ → ℕ → ℕ
expansion_wires w j =
    beside 32 (word_wires (mixed w j))
    (beside 32 (word_wires (P1 (mixed w j)))
    (word_wires (get_or w j 0)))

-- "for each round: u and its 2 carries, SS2, FF, GG, TT1 and 2 carries, TT2 and 2 carries, P0(TT2)", of round j on s
unfoldable pub round_wires : List ℕ → ℕ → State → ℕ → ℕ
round_wires w j s =
    beside 34 (sum_wires (sum_u j s))
    (beside 32 (word_wires (SS2 j s))
    (beside 32 (word_wires (FF j s.a s.b s.c))
    (beside 32 (word_wires (GG j s.e s.f s.g))
    (beside 34 (sum_wires (sum_tt1 j (w_prime w j) s))
    (beside 34 (sum_wires (sum_tt2 j (get_or w j 0) s))
    (word_wires (P0 (truncated (sum_tt2 j (get_or w j 0) s)))))))))

-- the wires of a block that follow from its 512 bits b and from the words v that it begins with: "for each j from 16 to 67
-- ..; W'0 to W'63; for each round ..; the 8 result words"
unfoldable pub computed_wires : (ℕ → ℕ) → State → ℕ → ℕ
computed_wires b v =
    beside (52 * expansion_width) (grid expansion_width (λ j. expansion_wires (expansion b 68) (16 + j)))
    (beside (64 * 32) (grid 32 (λ j. word_wires (w_prime (expansion b 68) j)))
    (beside (64 * round_width) (grid round_width (λ j. round_wires (expansion b 68) j (rounds (expansion b 68) v j)))
    (state_wires (block b v))))

-- .. and its 22,528 wires: "512 block bits" and those
unfoldable pub block_wires : (ℕ → ℕ) → State → ℕ → ℕ
block_wires b v = beside 512 b (computed_wires b v)
