-- Which step of the hash a row of a block stands for (document 01, "Rows": "each block in wire order"). The order is that of the
-- words: `word s j l` is whatever stands at line l of word j of step s, for a row its place.
use Rattle.std.specs.Prelude.{cond, List, [], ◌∷◌, ℕ, ◌+◌, ◌-◌, ◌*◌, ltb}
use Rattle.block.specs.declared.place.Place.{Place}
use Rattle.block.specs.declared.step.Step.TheVariants.{Start, Message, Q, P1, W, WPrime, U, Ss2, Ff, Gg, Tt1, Tt2, P0, Result, Digest, Appended}
use Rattle.block.specs.declared.step.Step.{Step}
use Rattle.encoding.specs.Sequence.{beside, grid}

-- How many rows a word of a step has: one a bit, two where each bit has its bit row and its equation, 34 bit rows and the
-- equation for a sum, and g for GG; an appended row is a word of its own.
abbrev pub lines_with : ℕ → Step → ℕ
lines_with g Start = 32
lines_with g Message = 32
lines_with g Q = 64
lines_with g P1 = 64
lines_with g W = 64
lines_with g WPrime = 32
lines_with g U = 35
lines_with g Ss2 = 32
lines_with g Ff = 64
lines_with g Gg = g
lines_with g Tt1 = 35
lines_with g Tt2 = 35
lines_with g P0 = 64
lines_with g Result = 32
lines_with g Digest = 32
lines_with g Appended = 1

-- .. of word j: GG is an xor of three "in rounds 0 to 15", then a choice
abbrev pub lines : Step → ℕ → ℕ
lines s j = lines_with (cond (ltb j 16) 64 32) s

-- "A block has 32,320 rows", of which 31,808 come after those of its 512 bits
abbrev pub block_rows : ℕ
block_rows = 32320

abbrev pub computed_rows : ℕ
computed_rows = 31808

-- a word of its expansion, with what leads to it: q, P1(q) and Wj
abbrev pub expanded_rows : ℕ
expanded_rows = 64 + 64 + 64

-- a round from 0 to 15: u, SS2, FF, GG, TT1, TT2, P0(TT2)
abbrev pub early_rows : ℕ
early_rows = 35 + 32 + 64 + 64 + 35 + 35 + 64

-- a later round, with another GG
abbrev pub late_rows : ℕ
late_rows = 35 + 32 + 64 + 32 + 35 + 35 + 64

-- all rounds
abbrev pub rounds_rows : ℕ
rounds_rows = 16 * early_rows + 48 * late_rows

-- how many rows of the rounds stand before round j
abbrev pub rows_before_round : ℕ → ℕ
rows_before_round j = cond (ltb j 16) (j * early_rows) (16 * early_rows + (j - 16) * late_rows)

-- word j of some steps one after the other, and behind them that of a last step
unfoldable pub one_after_other : {A : Type 0} → (Step → ℕ → ℕ → A) → List Step → Step → ℕ → ℕ → A
one_after_other word [] last j = word last j
one_after_other word (s ∷ ss) last j = beside (lines s j) (word s j) (one_after_other word ss last j)

-- q, P1(q) and Wj
unfoldable pub expansion_layout : {A : Type 0} → (Step → ℕ → ℕ → A) → ℕ → ℕ → A
expansion_layout word j = beside (lines Q j) (word Q j) (beside (lines P1 j) (word P1 j) (word W j))

-- round j: u, SS2, FF, GG, TT1, TT2, P0(TT2)
unfoldable pub round_layout : {A : Type 0} → (Step → ℕ → ℕ → A) → ℕ → ℕ → A
round_layout word j =
    beside (lines U j) (word U j)
    (beside (lines Ss2 j) (word Ss2 j)
    (beside (lines Ff j) (word Ff j)
    (beside (lines Gg j) (word Gg j)
    (beside (lines Tt1 j) (word Tt1 j)
    (beside (lines Tt2 j) (word Tt2 j)
    (word P0 j))))))

-- the rounds 0 to 15, then 16 to 63
unfoldable pub rounds_layout : {A : Type 0} → (Step → ℕ → ℕ → A) → ℕ → A
rounds_layout word =
    beside (16 * early_rows) (grid early_rows (round_layout word))
    (grid late_rows (λ j. round_layout word (16 + j)))

-- block bits, expansion, W', the rounds, the results
unfoldable pub block_layout : {A : Type 0} → (Step → ℕ → ℕ → A) → ℕ → A
block_layout word =
    beside (16 * 32) (grid 32 (word Message))
    (beside (52 * expanded_rows) (grid expanded_rows (λ j. expansion_layout word (16 + j)))
    (beside (64 * 32) (grid 32 (word WPrime))
    (beside rounds_rows (rounds_layout word)
    (grid 32 (word Result)))))

abbrev pub place : Step → ℕ → ℕ → ℕ → Place
place s i j l = record { block = i; step = s; index = j; line = l }
