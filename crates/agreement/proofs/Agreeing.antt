-- Entries held against values, one run after the other, and words read off entries. A fact about each place of two sequences one
-- after the other, or of a grid, is a fact about each place of its parts; and a word's wires are the bits that write it.
use Rattle.std.proofs.Common.{◌≡◌, ℕ, zero, suc, ◌+◌, ◌*◌, ◌/◌, ◌%◌, ◌^◌, ◌<◌, ◌≤◌, List, [], ◌∷◌, ◌++◌, length, get_or, take, sym, refl, ap, ◌∙◌, subst, ap₂, add_assoc, arith, take-suc, below_none, below_more}
use Rattle.assignment.specs.Assignment.{entry}
use Rattle.encoding.proofs.Bits.{number_cong, number_lt}
use Rattle.encoding.proofs.Sequence.{each_beside, each_grid}
use Rattle.encoding.proofs.Tab.{get_or-tab}
use Rattle.encoding.specs.Sequence.{beside, grid, tab}
use Rattle.forms.specs.WordWires.{word_wires}
use Rattle.agreement.specs.Agrees.{Agrees, BitsOf, BitsOfState, BitsOfWords}
use Rattle.sm3.proofs.WordBits.{bit-number}
use Rattle.sm3.proofs.expansion.FirstWords.{W, W-block}
use Rattle.sm3.specs.Sm3.{block_word, expansion, extended, state_of, word_of}
use Rattle.sm3.specs.Words.{bit}

-- Runs.

-- the same run, of an equal sequence
pub agrees_as : {w n : ℕ} {s t : ℕ → ℕ} {bytes : List ℕ} → s ≡ t → Agrees w n s bytes → Agrees w n t bytes
agrees_as {w} {n} {s} {t} {bytes} e h = subst (λ r. Agrees w n r bytes) e h

-- no entry
pub agrees_none : (w : ℕ) (s : ℕ → ℕ) (bytes : List ℕ) → Agrees w 0 s bytes
agrees_none w s bytes = record { entries = below_none (λ k. entry bytes (w + k) ≡ s k) }

-- one place more, at u
pub agrees_next : {w n : ℕ} {s : ℕ → ℕ} {bytes : List ℕ} (u : ℕ) → u ≡ w + n → entry bytes u ≡ s n → Agrees w n s bytes
    → Agrees w (n + 1) s bytes
agrees_next {w} {n} {s} {bytes} u e d h =
    record { entries = below_more (λ k. entry bytes (w + k) ≡ s k) n h.entries (ap (entry bytes) (sym e) ∙ d) }

-- one run after the other: the second begins at u, where the first ends
pub agrees_then : {w n m : ℕ} {s t : ℕ → ℕ} {bytes : List ℕ} (u : ℕ) → u ≡ w + n → Agrees w n s bytes → Agrees u m t bytes
    → Agrees w (n + m) (beside n s t) bytes
agrees_then {w} {n} {m} {s} {t} {bytes} u e h h' =
    record {
      entries =
          (each_beside (λ k v. entry bytes (w + k) ≡ v) n m s t).1 (
            h.entries,
            λ k l.
                let place : w + (n + k) ≡ u + k = omega arith in
                ap (entry bytes) place ∙ h'.entries k l,
          );
    }

-- c runs of m places each
pub agrees_rows : {w m : ℕ} {bytes : List ℕ} (c : ℕ) (s : ℕ → ℕ → ℕ) → ((j : ℕ) → j < c → Agrees (w + m * j) m (s j) bytes)
    → Agrees w (c * m) (grid m s) bytes
agrees_rows {w} {m} {bytes} c s h =
    record {
      entries =
          (each_grid (λ k v. entry bytes (w + k) ≡ v) c m s).1
          (λ j lj i li. ap (entry bytes) (sym (add_assoc w (m * j) i)) ∙ (h j lj).entries i li);
    }

-- Words.

pub bits_lt : {w n x : ℕ} {bytes : List ℕ} → BitsOf w n x bytes → x < 2 ^ n
bits_lt {w} {n} {x} {bytes} h =
    subst (λ y. y < 2 ^ n) (sym h.value) (number_lt n (λ i. entry bytes (w + i)) h.bits)

-- the wires of a word are the bits that write it
pub bits_agree : {w x : ℕ} {bytes : List ℕ} → BitsOf w 32 x bytes → Agrees w 32 (word_wires x) bytes
unfolding word_wires
bits_agree {w} {x} {bytes} h =
    record {
      entries = λ i l. sym (ap (bit i) h.value ∙ bit-number (λ i. entry bytes (w + i)) i h.bits l);
    }

-- the same words, by another name of their first wire
pub words-at : {w v n : ℕ} {words bytes : List ℕ} → w ≡ v → BitsOfWords w n words bytes → BitsOfWords v n words bytes
words-at {w} {v} {n} {words} {bytes} e h = subst (λ u. BitsOfWords u n words bytes) e h

-- the bits of n words
pub are_bits : {w n : ℕ} {words bytes : List ℕ} → BitsOfWords w n words bytes → (k : ℕ) → k < 32 * n → entry bytes (w + k) < 2
are_bits {w} {n} {words} {bytes} h k l =
    let place : w + 32 * (k / 32) + k % 32 ≡ w + k = omega arith in
    subst (λ u. entry bytes u < 2) place ((h.each (k / 32) (omega arith)).bits (k % 32) (omega arith))

-- eight words are A to H, by their number
pub state_read : (w : ℕ) (words bytes : List ℕ) → BitsOfWords w 8 words bytes → BitsOfState w (state_of words) bytes
unfolding tab word_of
state_read w words bytes h =
    record {
      each =
          λ k l. subst (λ y. BitsOf (w + 32 * k) 32 y bytes) (sym (get_or-tab 8 (λ k. get_or words k 0) k 0 l)) (h.each k l);
    }

-- the first words of a block are those that its bits write
pub first-words : {w : ℕ} {words bytes : List ℕ} (n : ℕ) → n ≤ 16 → n ≤ length words → BitsOfWords w n words bytes
    → take n words ≡ expansion (λ k. entry bytes (w + k)) n
unfolding W block_word expansion extended
first-words zero few room h = refl
first-words {w} {words} {bytes} (suc n) few room h =
    take-suc words n 0 room
    ∙ ap₂ (λ v x. v ++ (x ∷ []))
    (first-words n (omega arith) (omega arith) (record { each = λ j l. h.each j (omega arith) }))
    ((h.each n (omega arith)).value ∙ number_cong 32 _ _ (λ i l. ap (entry bytes) (add_assoc w (32 * n) i))
    ∙ sym (W-block (λ k. entry bytes (w + k)) n (omega arith)))
