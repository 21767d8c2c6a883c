-- The expansion of a block is the list of its words W0, W1, .., so the laws of such lists hold for it. Each word is a
-- function of words before it, or of the block's bits, so an array that holds the first words can be carried on word by
-- word.
use Rattle.std.proofs.Common.{◌≡◌, ℕ, zero, suc, ◌+◌, ◌-◌, ◌*◌, ◌<◌, ◌≤◌, Bool, true, false, cond, ltb, List, [], ◌∷◌, ◌++◌, length, get_or, take, set, sym, refl, ap, ◌∙◌, ap₂, arith, lit<, length-set, get_or-take, take-suc-set, ltb-true, le-ltb, lt-ltb}
use mathlib.Core.Logic.{by_cases}
use native.Mathlib.Decide.{dec_lt}
use Rattle.sm3.specs.Sm3.{block, block_word, expanded, expansion, extended, mixed, next_word, rounds, xor_state}
use Rattle.sm3.specs.declared.state.State.{State}
use Rattle.encoding.proofs.Bits.{number_cong}
use Rattle.encoding.proofs.Tab.{get_or-tab, take-tab}
use Rattle.encoding.specs.Sequence.{tab}

-- Wj of a block
unfoldable pub W : (ℕ → ℕ) → ℕ → ℕ
W bits j = next_word bits (expansion bits j) j

expansion-tab : (bits : ℕ → ℕ) (n : ℕ) → expansion bits n ≡ tab n (W bits)
unfolding expansion extended tab W
expansion-tab bits zero = refl
expansion-tab bits (suc n) = ap (λ (l : List ℕ). l ++ (next_word bits (expansion bits n) n ∷ [])) (expansion-tab bits n)

pub take-expansion : (bits : ℕ → ℕ) (m n : ℕ) → m ≤ n → take m (expansion bits n) ≡ expansion bits m
take-expansion bits m n h =
    ap (take m) (expansion-tab bits n) ∙ take-tab m n (W bits) h ∙ sym (expansion-tab bits m)

pub get_or-expansion : (bits : ℕ → ℕ) (n j : ℕ) → j < n → get_or (expansion bits n) j 0 ≡ W bits j
get_or-expansion bits n j h = ap (λ (l : List ℕ). get_or l j 0) (expansion-tab bits n) ∙ get_or-tab n (W bits) j 0 h

-- Wj reads only words before it
module _ (w : List ℕ) (j : ℕ) (h : 16 ≤ j) where
  get_or-before : (k : ℕ) → 0 < k → get_or (take j w) (j - k) 0 ≡ get_or w (j - k) 0
  get_or-before k p = get_or-take j w (j - k) 0 (omega arith)

  pub mixed-take : mixed (take j w) j ≡ mixed w j
  unfolding mixed
  mixed-take = rw (get_or-before 16 (lit< tt), get_or-before 9 (lit< tt), get_or-before 3 (lit< tt))

  expanded-take : expanded (take j w) j ≡ expanded w j
  unfolding expanded
  expanded-take = rw (mixed-take, get_or-before 13 (lit< tt), get_or-before 6 (lit< tt))

-- Wj is of the block, or of the words before it
pub W-block : (bits : ℕ → ℕ) (j : ℕ) → j < 16 → W bits j ≡ block_word bits j
unfolding W next_word
W-block bits j h = rw lt-ltb

pub W-expanded : (bits : ℕ → ℕ) (w : List ℕ) (j : ℕ) → 16 ≤ j → take j w ≡ expansion bits j → W bits j ≡ expanded w j
unfolding W next_word
W-expanded bits w j h e = rw (le-ltb, ← e) (expanded-take w j h)

-- .. and is the next word after an array of them
pub W-next : (bits : ℕ → ℕ) (w : List ℕ) (j : ℕ) → take j w ≡ expansion bits j → next_word bits w j ≡ W bits j
unfolding next_word
W-next bits w j e =
    by_cases (dec_lt j 16) (λ l. rw lt-ltb (sym (W-block bits j l)))
    (λ g.
    let h : 16 ≤ j = omega arith in
    rw le-ltb (sym (W-expanded bits w j h e)))

pub get_or-block : (bits : ℕ → ℕ) (n j : ℕ) → j < 16 → j < n → get_or (expansion bits n) j 0 ≡ block_word bits j
get_or-block bits n j h l = get_or-expansion bits n j l ∙ W-block bits j h

pub get_or-expanded : (bits : ℕ → ℕ) (n j : ℕ) → 16 ≤ j → j < n → get_or (expansion bits n) j 0 ≡ expanded (expansion bits n) j
get_or-expanded bits n j h l =
    get_or-expansion bits n j l ∙ W-expanded bits (expansion bits n) j h (take-expansion bits j n (omega arith))

-- an array of 68 words whose first j are those of a block's expansion
pub record Holds (bits : ℕ → ℕ) (w : List ℕ) (j : ℕ) : Type 0 where
  pub full : length w ≡ 68
  pub words : take j w ≡ expansion bits j

-- a store of Wj carries it on
pub store_W : {bits : ℕ → ℕ} {w : List ℕ} {j x : ℕ} (n : ℕ) → (n ≡ suc j) × (n ≤ 68) → x ≡ W bits j → Holds bits w j
    → Holds bits (set w j x) n
unfolding W expansion extended
store_W {bits} {w} {j} {x} n h e p =
    record {
      full = length-set w j x ∙ p.full;
      words =
          rw h.0 (take-suc-set w j x (omega arith) ∙ ap₂ (λ v y. v ++ (y ∷ [])) p.words e);
    }

pub store_expanded : {bits : ℕ → ℕ} {w : List ℕ} {j x : ℕ} (n : ℕ) → (n ≡ suc j) × (n ≤ 68) × (16 ≤ j) → x ≡ expanded w j
    → Holds bits w j → Holds bits (set w j x) n
store_expanded {bits} {w} {j} n h e p = store_W n (h.0, h.1) (e ∙ sym (W-expanded bits w j h.2 p.words)) p

-- the words of a block are a function of its 512 bits
module _ (b c : ℕ → ℕ) (e : (k : ℕ) → k < 512 → b k ≡ c k) where
  block_word_congruent : (j : ℕ) → j < 16 → block_word b j ≡ block_word c j
  unfolding block_word
  block_word_congruent j h = number_cong 32 _ _ (λ i l. e (32 * j + i) (omega arith))

  next_word_congruent : (w : List ℕ) (j : ℕ) → next_word b w j ≡ next_word c w j
  unfolding next_word
  next_word_congruent w j = by_case (ltb j 16) refl
    where
      by_case : (t : Bool) → ltb j 16 ≡ t
          → cond t (block_word b j) (expanded w j) ≡ cond t (block_word c j) (expanded w j)
      by_case true p = block_word_congruent j (ltb-true j 16 p)
      by_case false p = refl

  pub expansion_congruent : (n : ℕ) → expansion b n ≡ expansion c n
  unfolding expansion extended
  expansion_congruent zero = refl
  expansion_congruent (suc n) =
      ap (λ (w : List ℕ). extended b n w) (expansion_congruent n)
      ∙ ap (λ (x : ℕ). expansion c n ++ (x ∷ [])) (next_word_congruent (expansion c n) n)

  -- .. and so is what it comes to
  pub block_congruent : (v : State) → block b v ≡ block c v
  unfolding block
  block_congruent v = ap (λ (w : List ℕ). xor_state (rounds w v 64) v) (expansion_congruent 68)
