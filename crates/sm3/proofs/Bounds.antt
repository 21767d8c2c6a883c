-- Every word that the standard computes is below 2^32: what turns a word, or combines words bit by bit, makes a word again, a
-- sum drops what passes 2^32, and 32 bits write a word.
use Rattle.std.proofs.Common.{◌≡◌, ℕ, zero, suc, ◌+◌, ◌-◌, ◌*◌, ◌%◌, ◌^◌, ◌<◌, Bool, true, false, cond, eqb, ltb, List, [], ◌∷◌, ◌++◌, get_or, refl, arith, lit<, ltb-true}
use lib.Bits.{and_lt, or_lt, xor_lt}
use Rattle.limits.specs.Blocks.{blocks}
use Rattle.sm3.specs.Message.{chaining_value, message}
use Rattle.sm3.specs.Sm3.{◌⊕◌, FF, GG, P0, P1, block, block_word, choice, constant, truncated, expanded, expansion, extended, majority, mixed, next_word, w_prime, round_of, rounds, start, rotated_constant, xor_state}
use Rattle.sm3.specs.Words.{rotate_left}
use Rattle.sm3.specs.declared.state.State.{State}
use Rattle.sm3.proofs.Rotation.{rotate_lt}
use Rattle.encoding.proofs.Bits.{number_lt}

-- both cases of a test are below m
cond_lt : (t : Bool) (x y m : ℕ) → (t ≡ true → x < m) → (t ≡ false → y < m) → cond t x y < m
cond_lt true x y m hx hy = hx refl
cond_lt false x y m hx hy = hy refl

pub truncated_lt : (s : ℕ) → truncated s < 2 ^ 32
truncated_lt s = omega arith

xor_3_lt : (x y z : ℕ) → x < 2 ^ 32 → y < 2 ^ 32 → z < 2 ^ 32 → x ⊕ y ⊕ z < 2 ^ 32
xor_3_lt x y z hx hy hz = xor_lt 32 (x ⊕ y) z (xor_lt 32 x y hx hy) hz

pub majority_lt : (x y z : ℕ) → x < 2 ^ 32 → y < 2 ^ 32 → z < 2 ^ 32 → majority x y z < 2 ^ 32
unfolding majority
majority_lt x y z hx hy hz =
    or_lt 32 _ _ (or_lt 32 _ _ (and_lt 32 x y hx hy) (and_lt 32 x z hx hz)) (and_lt 32 y z hy hz)

pub choice_lt : (x y z : ℕ) → x < 2 ^ 32 → y < 2 ^ 32 → z < 2 ^ 32 → choice x y z < 2 ^ 32
unfolding choice
choice_lt x y z hx hy hz = or_lt 32 _ _ (and_lt 32 x y hx hy) (and_lt 32 (2 ^ 32 - 1 - x) z (omega arith) hz)

FF_lt : (j x y z : ℕ) → x < 2 ^ 32 → y < 2 ^ 32 → z < 2 ^ 32 → FF j x y z < 2 ^ 32
unfolding FF
FF_lt j x y z hx hy hz = cond_lt (ltb j 16) _ _ (2 ^ 32) (λ t. xor_3_lt x y z hx hy hz) (λ t. majority_lt x y z hx hy hz)

GG_lt : (j x y z : ℕ) → x < 2 ^ 32 → y < 2 ^ 32 → z < 2 ^ 32 → GG j x y z < 2 ^ 32
unfolding GG
GG_lt j x y z hx hy hz = cond_lt (ltb j 16) _ _ (2 ^ 32) (λ t. xor_3_lt x y z hx hy hz) (λ t. choice_lt x y z hx hy hz)

P0_lt : (x : ℕ) → x < 2 ^ 32 → P0 x < 2 ^ 32
unfolding P0
P0_lt x h = xor_3_lt x (rotate_left 9 x) (rotate_left 17 x) h (rotate_lt 9 x (omega arith) h) (rotate_lt 17 x (omega arith) h)

P1_lt : (x : ℕ) → x < 2 ^ 32 → P1 x < 2 ^ 32
unfolding P1
P1_lt x h = xor_3_lt x (rotate_left 15 x) (rotate_left 23 x) h (rotate_lt 15 x (omega arith) h) (rotate_lt 23 x (omega arith) h)

constant_lt : (j : ℕ) → constant j < 2 ^ 32
unfolding constant
constant_lt j = cond_lt (ltb j 16) _ _ (2 ^ 32) (λ t. lit< tt) (λ t. lit< tt)

pub rotated_constant_lt : (j : ℕ) → rotated_constant j < 2 ^ 32
unfolding rotated_constant
rotated_constant_lt j = rotate_lt (j % 32) (constant j) (omega arith) (constant_lt j)

-- The words of an expansion.

-- every word of a list; past its end stands 0
abbrev AllWords : List ℕ → Type 0
AllWords w = (k : ℕ) → get_or w k 0 < 2 ^ 32

all_snoc : (w : List ℕ) (x : ℕ) → AllWords w → x < 2 ^ 32 → AllWords (w ++ (x ∷ []))
all_snoc [] x hw hx zero = hx
all_snoc [] x hw hx (suc k) = hw 0
all_snoc (y ∷ w) x hw hx zero = hw 0
all_snoc (y ∷ w) x hw hx (suc k) = all_snoc w x (λ k. hw (suc k)) hx k

mixed_lt : (w : List ℕ) (j : ℕ) → AllWords w → mixed w j < 2 ^ 32
unfolding mixed
mixed_lt w j hw = xor_3_lt _ _ _ (hw (j - 16)) (hw (j - 9)) (rotate_lt 15 _ (omega arith) (hw (j - 3)))

expanded_lt : (w : List ℕ) (j : ℕ) → AllWords w → expanded w j < 2 ^ 32
unfolding expanded
expanded_lt w j hw = xor_3_lt _ _ _ (P1_lt _ (mixed_lt w j hw)) (rotate_lt 7 _ (omega arith) (hw (j - 13))) (hw (j - 6))

-- of a block whose bits are 0 or 1
pub expansion_lt : (bits : ℕ → ℕ) → ((k : ℕ) → k < 512 → bits k < 2) → (n k : ℕ) → get_or (expansion bits n) k 0 < 2 ^ 32
unfolding expansion extended next_word block_word
expansion_lt bits h zero k = lit< tt
expansion_lt bits h (suc j) k =
    all_snoc (expansion bits j) _ (expansion_lt bits h j)
    (cond_lt (ltb j 16) _ _ (2 ^ 32)
    (λ t. number_lt 32 (λ i. bits (32 * j + i)) (λ i l. h (32 * j + i) (omega (arith, ltb-true j 16 t))))
    (λ t. expanded_lt (expansion bits j) j (expansion_lt bits h j))) k

-- the message's bits are 0 or 1 where the record's are
pub message_lt : (n : ℕ) (r : ℕ → ℕ) → ((k : ℕ) → k < n → r k < 2) → (k : ℕ) → message n r k < 2
unfolding message
message_lt n r h k =
    cond_lt (ltb k n) _ _ 2 (λ t. h k (ltb-true k n t))
    (λ t. cond_lt (eqb k n) _ _ 2 (λ t. omega arith) (λ t. cond_lt (ltb k (512 * blocks n - 64)) _ _ 2 (λ t. omega arith) (λ t. omega arith)))

-- The words of a state.

pub record Words (s : State) : Type 0 where
  pub a : s.a < 2 ^ 32
  pub b : s.b < 2 ^ 32
  pub c : s.c < 2 ^ 32
  pub d : s.d < 2 ^ 32
  pub e : s.e < 2 ^ 32
  pub f : s.f < 2 ^ 32
  pub g : s.g < 2 ^ 32
  pub h : s.h < 2 ^ 32

pub start-words : Words start
start-words =
    record {
      a = lit< tt;
      b = lit< tt;
      c = lit< tt;
      d = lit< tt;
      e = lit< tt;
      f = lit< tt;
      g = lit< tt;
      h = lit< tt;
    }

round-words : (j word w' : ℕ) (s : State) → Words s → Words (round_of j word w' s)
unfolding round_of
round-words j word w' s w =
    record {
      a = truncated_lt _;
      b = w.a;
      c = rotate_lt 9 s.b (omega arith) w.b;
      d = w.c;
      e = P0_lt _ (truncated_lt _);
      f = w.e;
      g = rotate_lt 19 s.f (omega arith) w.f;
      h = w.g;
    }

rounds-words : (w : List ℕ) (v : State) → Words v → (j : ℕ) → Words (rounds w v j)
unfolding rounds
rounds-words w v hv zero = hv
rounds-words w v hv (suc j) = round-words j (get_or w j 0) (w_prime w j) (rounds w v j) (rounds-words w v hv j)

xor_words : (s v : State) → Words s → Words v → Words (xor_state s v)
unfolding xor_state
xor_words s v hs hv =
    record {
      a = xor_lt 32 _ _ hs.a hv.a;
      b = xor_lt 32 _ _ hs.b hv.b;
      c = xor_lt 32 _ _ hs.c hv.c;
      d = xor_lt 32 _ _ hs.d hv.d;
      e = xor_lt 32 _ _ hs.e hv.e;
      f = xor_lt 32 _ _ hs.f hv.f;
      g = xor_lt 32 _ _ hs.g hv.g;
      h = xor_lt 32 _ _ hs.h hv.h;
    }

pub block_words : (bits : ℕ → ℕ) (v : State) → Words v → Words (block bits v)
unfolding block
block_words bits v hv = xor_words _ v (rounds-words (expansion bits 68) v hv 64) hv

pub chaining_words : (m : ℕ → ℕ) (i : ℕ) → Words (chaining_value m i)
unfolding chaining_value
chaining_words m zero = start-words
chaining_words m (suc i) = block_words _ (chaining_value m i) (chaining_words m i)
