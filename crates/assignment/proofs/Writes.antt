-- Entries written one run after the other. A run is written where the one before it ends, so the bytes of the two stand one
-- after the other, as those of the two sequences do; and runs of one length, one after the other, are a grid.
use Rattle.std.proofs.Common.{◌≡◌, ℕ, zero, suc, ◌+◌, ◌-◌, ◌*◌, ◌<◌, ◌≤◌, List, ◌++◌, length, drop, sym, refl, ap, ◌∙◌, subst, ap₂, append_assoc, append-nil, add-zero, add-suc, mul-one, mul-add, arith}
use mathlib.Core.Logic.{by_cases}
use native.Mathlib.Decide.{dec_lt}
use Rattle.assignment.proofs.Entries.{length_entries}
use Rattle.assignment.specs.Assignment.{entry_bytes}
use Rattle.assignment.specs.Wrote.{Wrote}
use Rattle.encoding.proofs.Sequence.{beside_first, beside_then, grid-at}
use Rattle.encoding.proofs.Written.{length-written, written_apart, written_as, written-before, written-front, written_none, written_then}
use Rattle.encoding.specs.Bytes.{least_first}
use Rattle.encoding.specs.Sequence.{beside, grid}

-- The bytes of entries.

-- only the first n values count
pub entries_congruent : (n : ℕ) (s t : ℕ → ℕ) → ((k : ℕ) → k < n → s k ≡ t k) → entry_bytes n s ≡ entry_bytes n t
unfolding entry_bytes
entries_congruent zero s t e = refl
entries_congruent (suc n) s t e =
    ap₂ (λ xs x. xs ++ least_first 8 x) (entries_congruent n s t (λ k l. e k (omega arith))) (e n (omega arith))

entries_beside : (n m : ℕ) (s t : ℕ → ℕ) → entry_bytes (n + m) (beside n s t) ≡ entry_bytes n s ++ entry_bytes m t
unfolding entry_bytes
entries_beside n zero s t =
    ap (λ k. entry_bytes k (beside n s t)) (add-zero n) ∙ entries_congruent n _ s (beside_first n s t)
    ∙ sym (append-nil (entry_bytes n s))
entries_beside n (suc m) s t =
    ap (λ k. entry_bytes k (beside n s t)) (add-suc n m)
    ∙ ap₂ (λ xs x. xs ++ least_first 8 x) (entries_beside n m s t) (beside_then n s t m)
    ∙ append_assoc (entry_bytes n s) (entry_bytes m t) (least_first 8 (t m))

-- Runs.

pub length-wrote : {w n : ℕ} {s : ℕ → ℕ} {l l' : List ℕ} → Wrote w n s l l' → length l' ≡ length l
length-wrote h = length-written h.entries

-- the same run, of a sequence with the same values
pub wrote-same : {w n : ℕ} {s : ℕ → ℕ} {l l' : List ℕ} (t : ℕ → ℕ) → ((k : ℕ) → k < n → s k ≡ t k) → Wrote w n s l l'
    → Wrote w n t l l'
wrote-same {w} {n} {s} t e h = record { entries = written_as (entries_congruent n s t e) h.entries }

-- .. or of an equal sequence
pub wrote_as : {w n : ℕ} {s t : ℕ → ℕ} {l l' : List ℕ} → s ≡ t → Wrote w n s l l' → Wrote w n t l l'
wrote_as {w} {n} {s} {t} {l} {l'} e h = subst (λ r. Wrote w n r l l') e h

-- no entry
pub wrote_none : (w : ℕ) (s : ℕ → ℕ) (l : List ℕ) → Wrote w 0 s l l
unfolding entry_bytes
wrote_none w s l = record { entries = written_none (8 * w) l }

-- one run after the other: the second begins at u, where the first ends
pub wrote_then : {w n m : ℕ} {s t : ℕ → ℕ} {l l' l'' : List ℕ} (u : ℕ) → u ≡ w + n → Wrote w n s l l' → Wrote u m t l' l''
    → Wrote w (n + m) (beside n s t) l l''
wrote_then {w} {n} {m} {s} {t} u e h h' =
    let place : 8 * u ≡ 8 * w + length (entry_bytes n s) = omega (arith, length_entries n s) in
    record {
      entries = written_as (sym (entries_beside n m s t)) (written_then (8 * u) place h.entries h'.entries);
    }

-- .. or the second run first
pub wrote-before : {w n m : ℕ} {s t : ℕ → ℕ} {l l' l'' : List ℕ} (u : ℕ) → u ≡ w + n → Wrote u m t l l' → Wrote w n s l' l''
    → Wrote w (n + m) (beside n s t) l l''
wrote-before {w} {n} {m} {s} {t} u e h h' =
    let place : 8 * u ≡ 8 * w + length (entry_bytes n s) = omega (arith, length_entries n s) in
    record {
      entries = written_as (sym (entries_beside n m s t)) (written-before (8 * u) place h.entries h'.entries);
    }

-- runs apart may be written in either order
pub wrote_apart : {w u n m : ℕ} {s t : ℕ → ℕ} {l l' l'' : List ℕ} → w + n ≤ u → Wrote u m t l l' → Wrote w n s l' l''
    → (between : List ℕ) × Wrote w n s l between × Wrote u m t between l''
wrote_apart {w} {u} {n} {m} {s} {t} room h h' =
    let apart = written_apart (omega (arith, length_entries n s)) h.entries h'.entries in
    (apart.0, record { entries = apart.1 }, record { entries = apart.2 })

-- m places more of one sequence
pub wrote_on : {w n m : ℕ} {s t : ℕ → ℕ} {l l' l'' : List ℕ} (u : ℕ) → u ≡ w + n → ((k : ℕ) → k < m → t k ≡ s (n + k))
    → Wrote w n s l l' → Wrote u m t l' l'' → Wrote w (n + m) s l l''
wrote_on {w} {n} {m} {s} {t} u e more h h' =
    wrote-same s
    (λ k below.
    by_cases (dec_lt k n) (beside_first n s t k)
    (λ past.
    let place : n + (k - n) ≡ k = omega arith in
    subst (λ i. beside n s t i ≡ s i) place (beside_then n s t (k - n) ∙ more (k - n) (omega arith))))
    (wrote_then u e h h')

-- one place more
pub wrote-next : {w n x : ℕ} {s : ℕ → ℕ} {l l' l'' : List ℕ} (u : ℕ) → u ≡ w + n → x ≡ s n → Wrote w n s l l'
    → Wrote u 1 (λ k. x) l' l'' → Wrote w (n + 1) s l l''
wrote-next {n = n} {s = s} u e same h h' =
    wrote_on u e
    (λ k below.
    let place : n ≡ n + k = omega arith in
    same ∙ ap s place)
    h h'

-- row j of a grid after the rows before it
pub wrote-row : {w m : ℕ} {l l' l'' : List ℕ} (s : ℕ → ℕ → ℕ) (j u : ℕ) → u ≡ w + m * j → Wrote w (m * j) (grid m s) l l'
    → Wrote u m (s j) l' l'' → Wrote w (m * (j + 1)) (grid m s) l l''
wrote-row {w} {m} {l} {l'} {l''} s j u e h h' =
    subst (λ n. Wrote w n (grid m s) l l'') (sym (mul-add m j 1 ∙ ap (λ k. m * j + k) (mul-one m)))
    (wrote_on u e (λ k below. sym (grid-at m s j k below)) h h')

-- from wire 0 on: the entries, and then what stood there before
pub wrote_front : {n : ℕ} {s : ℕ → ℕ} {l l' : List ℕ} → 8 * n ≤ length l → Wrote 0 n s l l'
    → l' ≡ entry_bytes n s ++ drop (8 * n) l
wrote_front {n} {s} room h = written-front (8 * n) (length_entries n s) room h.entries
