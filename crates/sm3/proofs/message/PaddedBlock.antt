-- The blocks that a record does not fill, as lists of bytes: zeros past the record, or the record's last bytes with its end cut; in
-- the last block with the bit length in the last eight bytes. Each byte is the message's.
use Rattle.std.proofs.Common.{◌≡◌, ℕ, zero, suc, ◌+◌, ◌-◌, ◌*◌, ◌/◌, ◌%◌, ◌^◌, ◌<◌, ◌≤◌, cond, ltb, List, ◌++◌, length, get_or, set, take, sym, refl, ap, ◌∙◌, subst, ap₂, pow-suc, arith, pow-add, eq-eqb, ne_eqb, le-ltb, lt-ltb}
use mathlib.Core.Logic.{by_cases}
use native.Mathlib.Decide.{ℕ_discrete, dec_lt}
use lib.ListN.{get_or-eq_default}
use Rattle.encoding.proofs.Filling.{set-tab, wrote}
use Rattle.encoding.proofs.Tab.{get_or-tab, tab-add, tab_congruent, take-tab}
use Rattle.encoding.specs.Bytes.{highest_first}
use Rattle.encoding.specs.Packed.{packed_length}
use Rattle.encoding.specs.Sequence.{tab}
use Rattle.limits.specs.Blocks.{blocks}
use Rattle.sm3.proofs.message.Padding.{IsByte, cut_byte_lem, cut_after, in_record, length-byte, past_record, record_end}
use Rattle.sm3.specs.Ended.{cut_byte, ended_byte}

-- a byte of a number weighs eight bits
bytes_weigh : (m : ℕ) → 256 ^ m ≡ 2 ^ (8 * m)
bytes_weigh zero = refl
bytes_weigh (suc m) =
    let more : 8 * suc m ≡ 8 * m + 8 = omega arith in
    pow-suc 256 m ∙ ap (λ t. t * 256) (bytes_weigh m) ∙ sym (pow-add 2 (8 * m) 8) ∙ ap (λ k. 2 ^ k) (sym more)

module _ (n : ℕ) (bytes : List ℕ) (i : ℕ) where
  -- the bytes of block i up to the bit length are the message's
  abbrev pub Laid : (ℕ → ℕ) → Type 0
  Laid f = (x : ℕ) → 8 * (64 * i + x) + 8 ≤ 512 * blocks n - 64 → IsByte n bytes (64 * i + x) (f x)

  abbrev pub ended_bytes : ℕ → ℕ
  ended_bytes x = ended_byte n bytes (64 * i + x)

  elsewhere : (x : ℕ) → (64 * i + x ≡ n / 8 → ⊥) → ended_bytes x ≡ get_or bytes (64 * i + x) 0
  elsewhere x d = simp (ne_eqb (64 * i + x) (n / 8) d)

  module _ (size : length bytes ≡ packed_length n) where
    past_end : (x : ℕ) → n / 8 < 64 * i + x → ended_bytes x ≡ 0
    past_end x l = elsewhere x (omega arith) ∙ get_or-eq_default bytes 0 (omega arith)

    pub ended_laid : Laid ended_bytes
    ended_laid x l = by x l (ℕ_discrete (64 * i + x) (n / 8)) (dec_lt (64 * i + x) (n / 8))
      where
        by : (x : ℕ) → 8 * (64 * i + x) + 8 ≤ 512 * blocks n - 64 → Dec (64 * i + x ≡ n / 8) → Dec (64 * i + x < n / 8)
            → IsByte n bytes (64 * i + x) (ended_bytes x)
        by x l (yes e) d =
            let cut : ended_bytes x ≡ cut_after (7 - n % 8) (get_or bytes (64 * i + x) 0) =
            simp (eq-eqb (64 * i + x) (n / 8) e) (cut_byte_lem (n % 8) (get_or bytes (64 * i + x) 0) (omega arith)) in
            subst (IsByte n bytes (64 * i + x)) (sym cut) (record_end n bytes (64 * i + x) (7 - n % 8) e refl)
        by x l (no e) (yes d) =
            subst (IsByte n bytes (64 * i + x)) (sym (elsewhere x e)) (in_record n bytes (64 * i + x) (omega arith))
        by x l (no e) (no d) =
            subst (IsByte n bytes (64 * i + x)) (sym (past_end x (omega arith))) (past_record n bytes (64 * i + x) (omega arith) l)

  -- a block past the record
  pub past-ended : n < 512 * i → tab 64 (λ x. get_or bytes (64 * i + x) 0) ≡ tab 64 ended_bytes
  past-ended h = tab_congruent 64 _ _ (λ x l. sym (elsewhere x (omega arith)))

  -- the block in which the record ends
  pub end_cut : 512 * i ≤ n → n < 512 * i + 512 → (t : List ℕ) → t ≡ tab 64 (λ x. get_or bytes (64 * i + x) 0)
      → (k y : ℕ) → k ≡ n / 8 - 64 * i → y ≡ cut_byte (n % 8) (get_or t k 0) → set t k y ≡ tab 64 ended_bytes
  end_cut from l t e k y at cut =
      let byte : get_or t k 0 ≡ get_or bytes (64 * i + k) 0 =
      ap (λ (u : List ℕ). get_or u k 0) e ∙ get_or-tab 64 (λ x. get_or bytes (64 * i + x) 0) k 0 (omega arith) in
      ap₂ (λ (u : List ℕ) (v : ℕ). set u k v) e (cut ∙ ap (cut_byte (n % 8)) byte)
      ∙ set-tab 64 (λ x. get_or bytes (64 * i + x) 0) k (cut_byte (n % 8) (get_or bytes (64 * i + k) 0)) (omega arith)
      ∙ tab_congruent 64 _ _ (λ x b. by x (ℕ_discrete x k))
    where
      by : (x : ℕ) → Dec (x ≡ k) → wrote (λ x. get_or bytes (64 * i + x) 0) k (cut_byte (n % 8) (get_or bytes (64 * i + k) 0)) x ≡ ended_bytes x
      by x (yes d) =
          simp (eq-eqb x k d, eq-eqb (64 * i + x) (n / 8) (omega arith)) (ap (λ j. cut_byte (n % 8) (get_or bytes (64 * i + j) 0)) (sym d))
      by x (no d) = simp (ne_eqb x k d, ne_eqb (64 * i + x) (n / 8) (omega arith))

  -- What is laid is a block of the message.
  module _ (f : ℕ → ℕ) (laid : Laid f) where
    -- one before the last
    pub not_last : 512 * i + 512 < n + 65 → (x : ℕ) → x < 64 → IsByte n bytes (64 * i + x) (f x)
    unfolding blocks
    not_last h x l = laid x (omega arith)

    abbrev pub with_length : ℕ → ℕ
    with_length x = cond (ltb x 56) (f x) (n / 256 ^ (63 - x) % 256)

    pub length-set : (t : List ℕ) → t ≡ tab 64 f → take 56 t ++ highest_first 8 n ≡ tab 64 with_length
    unfolding highest_first
    length-set t e =
        ap₂ (λ (u v : List ℕ). u ++ v)
        (ap (take 56) e ∙ take-tab 56 64 f (omega arith) ∙ tab_congruent 56 _ _ (λ k l. sym (simp (lt-ltb k 56 l))))
        (tab_congruent 8 _ _
        (λ k l.
        let place : 8 - 1 - k ≡ 63 - (56 + k) = omega arith in
        ap (λ m. n / 256 ^ m % 256) place ∙ sym (simp (le-ltb (56 + k) 56 (omega arith)))))
        ∙ sym (tab-add 56 8 with_length)

    -- the last one
    module _ (h : n + 65 ≤ 512 * i + 512) (below : i < blocks n) where
      -- byte m of the length, counted from the last
      at_length : (x m : ℕ) → x + m ≡ 63 → m < 8 → IsByte n bytes (64 * i + x) (n / 256 ^ m % 256)
      unfolding blocks
      at_length x m e few =
          subst (λ t. IsByte n bytes (64 * i + x) (n / t % 256)) (sym (bytes_weigh m))
          (length-byte n bytes (64 * i + x) m (omega arith) few)

      pub last : (x : ℕ) → x < 64 → IsByte n bytes (64 * i + x) (with_length x)
      unfolding blocks
      last x l =
          by_cases (dec_lt x 56)
          (λ before. subst (IsByte n bytes (64 * i + x)) (sym (simp (lt-ltb x 56 before))) (laid x (omega arith)))
          (λ from.
          subst (IsByte n bytes (64 * i + x)) (sym (simp (le-ltb x 56 (omega arith)))) (at_length x (63 - x) (omega arith) (omega arith)))
