-- SM3 as the standard has it, in the order of document 01, "SM3 as used". Each sum of a round stands here with nothing
-- dropped, under a name of its own; the word is that sum modulo 2^32.
use Rattle.std.specs.Prelude.{ℕ, zero, suc, ◌+◌, ◌-◌, ◌*◌, ◌%◌, ◌^◌, cond, List, [], ◌∷◌, ◌++◌, bit_and, bit_or, bit_xor, nat_lt, slice_index, slice_index_or}
use Rattle.sm3.specs.Words.{rotate_left}
use Rattle.sm3.specs.declared.state.State.{State}
use Rattle.encoding.specs.Bits.{number}

infixl 60 ◌⊕◌
-- xor of two words
abbrev pub ◌⊕◌ : ℕ → ℕ → ℕ
x ⊕ y = bit_xor x y

-- "Additions drop what passes 2^32"
abbrev pub truncated : ℕ → ℕ
truncated s = s % 2 ^ 32

-- "Start words (hexadecimal): 7380166f .."
abbrev pub start : State
start =
    record {
      a = 0x7380166f;
      b = 0x4914b2b9;
      c = 0x172442d7;
      d = 0xda8a0600;
      e = 0xa96f30bc;
      f = 0x163138aa;
      g = 0xe38dee4d;
      h = 0xb0fb0e4e;
    }

-- "T is 79cc4519 in rounds 0 to 15 and 7a879d8a in 16 to 63"
unfoldable pub constant : ℕ → ℕ
constant j = cond (nat_lt j 16) 0x79cc4519 0x7a879d8a

-- "T<<<(j mod 32)"
unfoldable pub rotated_constant : ℕ → ℕ
rotated_constant j = rotate_left (j % 32) (constant j)

-- "P0(X) = X xor X<<<9 xor X<<<17"
unfoldable pub P0 : ℕ → ℕ
P0 x = x ⊕ rotate_left 9 x ⊕ rotate_left 17 x

-- "P1(X) = X xor X<<<15 xor X<<<23"
unfoldable pub P1 : ℕ → ℕ
P1 x = x ⊕ rotate_left 15 x ⊕ rotate_left 23 x

-- Expansion. `w` is the list of the words from W0 on.

-- "q = W(j-16) xor W(j-9) xor W(j-3)<<<15"
unfoldable pub mixed : List ℕ → ℕ → ℕ
mixed w j = slice_index_or w (j - 16) 0 ⊕ slice_index_or w (j - 9) 0 ⊕ rotate_left 15 (slice_index w (j - 3))

-- "Wj = P1(q) xor W(j-13)<<<7 xor W(j-6)"
unfoldable pub expanded : List ℕ → ℕ → ℕ
expanded w j = P1 (mixed w j) ⊕ rotate_left 7 (slice_index w (j - 13)) ⊕ slice_index_or w (j - 6) 0

-- "W0 to W15 are the block": word j of a block's 512 bits
unfoldable pub block_word : (ℕ → ℕ) → ℕ → ℕ
block_word bits j = number 32 (λ i. bits (32 * j + i))

-- Wj after the words w before it
unfoldable pub next_word : (ℕ → ℕ) → List ℕ → ℕ → ℕ
next_word bits w j = cond (nat_lt j 16) (block_word bits j) (expanded w j)

unfoldable pub extended : (ℕ → ℕ) → ℕ → List ℕ → List ℕ
extended bits j w = w ++ (next_word bits w j ∷ [])

-- the first n words of a block's expansion
unfoldable pub expansion : (ℕ → ℕ) → ℕ → List ℕ
expansion bits zero = []
expansion bits (suc j) = extended bits j (expansion bits j)

-- "W'j = Wj xor W(j+4)"
unfoldable pub w_prime : List ℕ → ℕ → ℕ
w_prime w j = slice_index_or w j 0 ⊕ slice_index_or w (j + 4) 0

-- Round j on A to H.

-- "FF of A, B, C ..: xor of three in rounds 0 to 15; then FF is the majority"
unfoldable pub majority : ℕ → ℕ → ℕ → ℕ
majority x y z = bit_or (bit_or (bit_and x y) (bit_and x z)) (bit_and y z)

unfoldable pub FF : ℕ → ℕ → ℕ → ℕ → ℕ
FF j x y z = cond (nat_lt j 16) (x ⊕ y ⊕ z) (majority x y z)

-- ".. and GG of E, F, G: xor of three in rounds 0 to 15; then .. GG picks F where E is 1, else G"
unfoldable pub choice : ℕ → ℕ → ℕ → ℕ
choice x y z = bit_or (bit_and x y) (bit_and (2 ^ 32 - 1 - x) z)

unfoldable pub GG : ℕ → ℕ → ℕ → ℕ → ℕ
GG j x y z = cond (nat_lt j 16) (x ⊕ y ⊕ z) (choice x y z)

-- "u = A<<<12 + E + T<<<(j mod 32)", with nothing dropped
unfoldable pub sum_u : ℕ → State → ℕ
sum_u j s = rotate_left 12 s.a + s.e + rotated_constant j

-- "SS1 = u<<<7"
unfoldable pub SS1 : ℕ → State → ℕ
SS1 j s = rotate_left 7 (truncated (sum_u j s))

-- "SS2 = SS1 xor A<<<12"
unfoldable pub SS2 : ℕ → State → ℕ
SS2 j s = SS1 j s ⊕ rotate_left 12 s.a

-- "TT1 = FF + D + SS2 + W'j", with nothing dropped; `w'` is W'j
unfoldable pub sum_tt1 : ℕ → ℕ → State → ℕ
sum_tt1 j w' s = FF j s.a s.b s.c + s.d + SS2 j s + w'

-- "TT2 = GG + H + SS1 + Wj", with nothing dropped; `word` is Wj
unfoldable pub sum_tt2 : ℕ → ℕ → State → ℕ
sum_tt2 j word s = GG j s.e s.f s.g + s.h + SS1 j s + word

-- "Then D = C, C = B<<<9, B = A, A = TT1, H = G, G = F<<<19, F = E, E = P0(TT2)"
unfoldable pub round_of : ℕ → ℕ → ℕ → State → State
round_of j word w' s =
    record {
      a = truncated (sum_tt1 j w' s);
      b = s.a;
      c = rotate_left 9 s.b;
      d = s.c;
      e = P0 (truncated (sum_tt2 j word s));
      f = s.e;
      g = rotate_left 19 s.f;
      h = s.g;
    }

-- A to H before round j of a block with the expansion w that begins with the words v
unfoldable pub rounds : List ℕ → State → ℕ → State
rounds w v zero = v
rounds w v (suc j) = round_of j (slice_index w j) (w_prime w j) (rounds w v j)

-- two states word by word
unfoldable pub xor_state : State → State → State
xor_state s v =
    record {
      a = s.a ⊕ v.a;
      b = s.b ⊕ v.b;
      c = s.c ⊕ v.c;
      d = s.d ⊕ v.d;
      e = s.e ⊕ v.e;
      f = s.f ⊕ v.f;
      g = s.g ⊕ v.g;
      h = s.h ⊕ v.h;
    }

-- "The block's result is A to H xor the words it began with"
unfoldable pub block : (ℕ → ℕ) → State → State
block bits v = xor_state (rounds (expansion bits 68) v 64) v

-- A to H as a list
abbrev pub words_of : State → List ℕ
words_of s = s.a ∷ s.b ∷ s.c ∷ s.d ∷ s.e ∷ s.f ∷ s.g ∷ s.h ∷ []

-- .. by their number
unfoldable pub word_of : State → ℕ → ℕ
word_of s k = slice_index (words_of s) k

-- A to H of a list of eight words
abbrev pub state_of : List ℕ → State
state_of words =
    record {
      a = slice_index words 0;
      b = slice_index words 1;
      c = slice_index words 2;
      d = slice_index words 3;
      e = slice_index words 4;
      f = slice_index words 5;
      g = slice_index words 6;
      h = slice_index words 7;
    }
