-- Entries and their bytes: entry w is read from bytes 8 w to 8 w + 7 and from no others; eight bytes read back the number below 2^64
-- that they were written from, and a number writes the eight bytes again that it was read from.
use Rattle.std.proofs.Common.{◌≡◌, ℕ, zero, suc, ◌+◌, ◌*◌, ◌/◌, ◌%◌, ◌^◌, ◌<◌, ◌≤◌, List, [], ◌++◌, length, get_or, take, drop, sym, refl, ap, ◌∙◌, subst, mod-lt, mod-eq_of_lt, zero-add, arith, lit<, length-append, get_or-drop, get_or-take, get_or-append-add, ext_get_or}
use mathlib.Core.Logic.{by_cases}
use native.Mathlib.Decide.{dec_lt}
use lib.ListN.{get_or-append, get_or-eq_default}
use lib.Seq.{take-append_seam}
use Rattle.assignment.specs.Assignment.{entry, entry_bytes, wire_bytes}
use Rattle.encoding.proofs.Bytes.{byte_of_number, from_bytes_congruent, from-least_first, length-least_first}
use Rattle.encoding.proofs.Tab.{get_or-tab}
use Rattle.encoding.specs.Bytes.{Bytes, from_least_first, least_first}

-- the 8 bytes of its wire are enough to read an entry
pub entry_of_wire : (a b : List ℕ) (w : ℕ) → wire_bytes a w ≡ wire_bytes b w → entry a w ≡ entry b w
unfolding entry wire_bytes
entry_of_wire a b w same = from-wire a ∙ ap (λ l. from_least_first 8 l 0) same ∙ sym (from-wire b)
  where
    from-wire : (bytes : List ℕ) → from_least_first 8 bytes (8 * w) ≡ from_least_first 8 (take 8 (drop (8 * w) bytes)) 0
    from-wire bytes =
        from_bytes_congruent 8 bytes (take 8 (drop (8 * w) bytes)) (8 * w) 0
        (λ i l.
        sym
        (ap (λ k. get_or (take 8 (drop (8 * w) bytes)) k 0) (zero-add i)
        ∙ get_or-take 8 (drop (8 * w) bytes) i 0 l
        ∙ get_or-drop (8 * w) bytes i 0))

-- The bytes of n entries.

pub length_entries : (n : ℕ) (s : ℕ → ℕ) → length (entry_bytes n s) ≡ 8 * n
unfolding entry_bytes
length_entries zero s = refl
length_entries (suc n) s =
    omega (arith, length-append (entry_bytes n s) (least_first 8 (s n)), length-least_first 8 (s n), length_entries n s)

byte_of_entry : (n : ℕ) (s : ℕ → ℕ) (w i : ℕ) → w < n → i < 8
    → get_or (entry_bytes n s) (8 * w + i) 0 ≡ get_or (least_first 8 (s w)) i 0
unfolding entry_bytes
byte_of_entry zero s w i h l = absurd (omega arith)
byte_of_entry (suc n) s w i h l =
    by_cases (dec_lt w n)
    (λ before.
    get_or-append (entry_bytes n s) (least_first 8 (s n)) 0 (8 * w + i) (omega (arith, length_entries n s))
    ∙ byte_of_entry n s w i before l)
    (λ past.
    let last : n ≡ w = omega arith in
    let place : 8 * w + i ≡ length (entry_bytes n s) + i = omega (arith, length_entries n s) in
    ap (λ k. get_or (entry_bytes n s ++ least_first 8 (s n)) k 0) place
    ∙ get_or-append-add (entry_bytes n s) (least_first 8 (s n)) i 0
    ∙ ap (λ k. get_or (least_first 8 (s k)) i 0) last)

pub entries_bytes : (n : ℕ) (s : ℕ → ℕ) → Bytes (entry_bytes n s)
unfolding least_first
entries_bytes n s k =
    by_cases (dec_lt k (8 * n))
    (λ l.
    let place : 8 * (k / 8) + k % 8 ≡ k = omega arith in
    subst (λ x. x < 256)
    (sym
    (ap (λ i. get_or (entry_bytes n s) i 0) (sym place)
    ∙ byte_of_entry n s (k / 8) (k % 8) (omega arith) (omega arith)
    ∙ get_or-tab 8 _ (k % 8) 0 (omega arith)))
    (mod-lt _ (lit< tt)))
    (λ past. subst (λ x. x < 256) (sym (get_or-eq_default (entry_bytes n s) 0 (omega (arith, length_entries n s)))) (lit< tt))

-- each reads back
pub entry-written : (n : ℕ) (s : ℕ → ℕ) (w : ℕ) → w < n → s w < 2 ^ 64 → entry (entry_bytes n s) w ≡ s w
unfolding entry
entry-written n s w h below =
    from_bytes_congruent 8 (entry_bytes n s) (least_first 8 (s w)) (8 * w) 0
    (λ i l. byte_of_entry n s w i h l ∙ ap (λ k. get_or (least_first 8 (s w)) k 0) (sym (zero-add i)))
    ∙ from-least_first 8 (s w)
    ∙ mod-eq_of_lt below

-- bytes are those of the entries that they write
pub bytes_of_entries : (n : ℕ) (s : ℕ → ℕ) (a : List ℕ) → Bytes a → length a ≡ 8 * n → ((w : ℕ) → w < n → entry a w ≡ s w)
    → a ≡ entry_bytes n s
unfolding entry least_first
bytes_of_entries n s a h long same =
    ext_get_or 0 a (entry_bytes n s) (long ∙ sym (length_entries n s))
    (λ k l.
    let w : ℕ = k / 8 in
    let i : ℕ = k % 8 in
    let place : 8 * (k / 8) + k % 8 ≡ k = omega arith in
    ap (λ j. get_or a j 0) (sym place)
    ∙ sym (byte_of_number 8 a h (8 * w) i (omega arith))
    ∙ ap (λ x. x / 256 ^ i % 256) (same w (omega arith))
    ∙ sym (get_or-tab 8 (λ i. s w / 256 ^ i % 256) i 0 (omega arith))
    ∙ sym (byte_of_entry n s w i (omega arith) (omega arith))
    ∙ ap (λ j. get_or (entry_bytes n s) j 0) place)

-- what is left at the front of a buffer of which they are written
pub entries_front : (n : ℕ) (s : ℕ → ℕ) (rest : List ℕ) → take (8 * n) (entry_bytes n s ++ rest) ≡ entry_bytes n s
entries_front n s rest =
    ap (λ k. take k (entry_bytes n s ++ rest)) (sym (length_entries n s)) ∙ take-append_seam (entry_bytes n s) rest

-- past the last byte a wire reads as 0
pub entry_past : (n : ℕ) (bytes : List ℕ) → length bytes ≡ 8 * n → (w : ℕ) → n ≤ w → entry bytes w ≡ 0
unfolding entry from_least_first
entry_past n bytes long w past =
    from_bytes_congruent 8 bytes [] (8 * w) 0 (λ i l. get_or-eq_default bytes 0 (omega arith))
