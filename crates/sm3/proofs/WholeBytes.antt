-- Whole bytes. A record of 8 L bits ends where a byte does, so the byte in which the padding begins has no bit of it: it is 128, and
-- the bytes after it are 0 up to the eight bytes of the length. Past its end the message's definition gives the lowest bit of 8 L, which
-- is 0, as a list does past its end; so the two sequences are the same everywhere, and all that is computed from them is.
use Rattle.refusal.specs.Refusals.{Outcome}
use Rattle.std.specs.Prelude.{Err}
use Rattle.std.proofs.Common.{◌≡◌, ℕ, zero, suc, ◌+◌, ◌-◌, ◌*◌, ◌/◌, ◌%◌, ◌^◌, ◌<◌, cond, ltb, List, [], ◌∷◌, ◌++◌, length, get_or, sym, refl, ap, ◌∙◌, subst, ap₂, pow-suc, mul-suc, div-one, arith, length-append, get_or-append-add, pow-add, le-ltb, lt-ltb, eq-eqb}
use mathlib.Core.Logic.{by_cases}
use mathlib.Core.Path.{fun_ext}
use native.Mathlib.Decide.{ℕ_discrete, dec_lt}
use native.Mathlib.Nat.{div-add-mod, zero-div}
use lib.ListN.{get_or-append, get_or-eq_default}
use Rattle.encoding.proofs.PackedBits.{spare_none}
use Rattle.encoding.proofs.Tab.{get_or-tab, length-tab}
use Rattle.encoding.specs.Bits.{bit_of_bytes}
use Rattle.encoding.specs.Bytes.{highest_first}
use Rattle.encoding.specs.Packed.{packed_length}
use Rattle.encoding.specs.Sequence.{tab}
use Rattle.limits.proofs.Limited.{ours_stand}
use Rattle.limits.specs.Blocks.{blocks, most_bits}
use Rattle.limits.specs.Handed.{handed_answer, record_bytes_answer}
use Rattle.limits.specs.Limit.{our_limit}
use Rattle.refusal.specs.declared.outcome.Refusal.TheVariants.{LengthOutOfRange}
use Rattle.sm3.proofs.message.MessageBits.{message-length}
use Rattle.sm3.proofs.message.Padding.{IsByte, cut_after, in_record, length-byte, past_record, record_end}
use Rattle.sm3.specs.Message.{bytes_of, chaining_value, digest_bytes, digest_of, message}
use Rattle.sm3.specs.WholeBytes.{WholeBytes, blocks_of_bytes, most_bytes, padded_bytes}

in_range : (L : ℕ) → ltb most_bits (8 * L) ≡ ltb most_bytes L
in_range L =
    by_cases (dec_lt most_bytes L) (λ l. lt-ltb most_bits (8 * L) (omega arith) ∙ sym (lt-ltb most_bytes L l))
    (λ l. le-ltb most_bits (8 * L) (omega arith) ∙ sym (le-ltb most_bytes L (omega arith)))

pub blocks_of_bytes_lem : (L : ℕ) → blocks (8 * L) ≡ blocks_of_bytes L
unfolding blocks
blocks_of_bytes_lem L = omega arith

power_256 : (m : ℕ) → 256 ^ m ≡ 2 ^ (8 * m)
power_256 zero = refl
power_256 (suc m) =
    pow-suc 256 m ∙ ap (λ t. t * 256) (power_256 m) ∙ sym (ap (λ t. 2 ^ t) (mul-suc 8 m) ∙ pow-add 2 (8 * m) 8)

module _ (r : List ℕ) where
  abbrev L : ℕ
  L = length r

  abbrev zeros : List ℕ
  zeros = tab (64 * blocks_of_bytes L - 9 - L) (λ k. 0)

  abbrev length_bytes : List ℕ
  length_bytes = highest_first 8 (8 * L)

  -- how long the padded bytes are up to each part
  one_long : length (r ++ (128 ∷ [])) ≡ L + 1
  one_long = length-append r (128 ∷ [])

  zeros_long : length (r ++ (128 ∷ []) ++ zeros) ≡ 64 * blocks_of_bytes L - 8
  zeros_long = omega (arith, length-append (r ++ (128 ∷ [])) zeros, one_long, length-tab {A = ℕ} (64 * blocks_of_bytes L - 9 - L) (λ k. 0))

  all_long : length (padded_bytes r) ≡ 64 * blocks_of_bytes L
  unfolding padded_bytes highest_first
  all_long = omega (arith, length-append (r ++ (128 ∷ []) ++ zeros) length_bytes, zeros_long, length-tab 8 (λ i. 8 * L / 256 ^ (8 - 1 - i) % 256))

  -- The bytes, part by part.
  abbrev byte : ℕ → ℕ
  byte x = get_or (padded_bytes r) x 0

  byte_of_record : (x : ℕ) → x < L → byte x ≡ get_or r x 0
  unfolding padded_bytes
  byte_of_record x l =
      get_or-append (r ++ (128 ∷ []) ++ zeros) length_bytes 0 x (omega (arith, zeros_long))
      ∙ get_or-append (r ++ (128 ∷ [])) zeros 0 x (omega (arith, one_long))
      ∙ get_or-append r (128 ∷ []) 0 x l

  byte_128 : (x : ℕ) → x ≡ L → byte x ≡ 128
  unfolding padded_bytes
  byte_128 x e =
      let place : x ≡ length r + 0 = omega arith in
      get_or-append (r ++ (128 ∷ []) ++ zeros) length_bytes 0 x (omega (arith, zeros_long))
      ∙ get_or-append (r ++ (128 ∷ [])) zeros 0 x (omega (arith, one_long))
      ∙ ap (λ k. get_or (r ++ (128 ∷ [])) k 0) place
      ∙ get_or-append-add r (128 ∷ []) 0 0

  byte-zero : (x : ℕ) → L < x → x + 8 < 64 * blocks_of_bytes L → byte x ≡ 0
  unfolding padded_bytes
  byte-zero x l h =
      let place : x ≡ length (r ++ (128 ∷ [])) + (x - L - 1) = omega (arith, one_long) in
      get_or-append (r ++ (128 ∷ []) ++ zeros) length_bytes 0 x (omega (arith, zeros_long))
      ∙ ap (λ k. get_or (r ++ (128 ∷ []) ++ zeros) k 0) place
      ∙ get_or-append-add (r ++ (128 ∷ [])) zeros (x - L - 1) 0
      ∙ get_or-tab (64 * blocks_of_bytes L - 9 - L) (λ k. 0) (x - L - 1) 0 (omega arith)

  -- byte m of the length, counted from the last
  byte-length : (x m : ℕ) → x + m + 1 ≡ 64 * blocks_of_bytes L → m < 8 → byte x ≡ 8 * L / 2 ^ (8 * m) % 256
  unfolding padded_bytes highest_first
  byte-length x m e few =
      let place : x ≡ length (r ++ (128 ∷ []) ++ zeros) + (7 - m) = omega (arith, zeros_long) in
      let weight : 8 - 1 - (7 - m) ≡ m = omega arith in
      ap (λ k. get_or (padded_bytes r) k 0) place
      ∙ get_or-append-add (r ++ (128 ∷ []) ++ zeros) length_bytes (7 - m) 0
      ∙ get_or-tab 8 (λ i. 8 * L / 256 ^ (8 - 1 - i) % 256) (7 - m) 0 (omega arith)
      ∙ ap (λ k. 8 * L / 256 ^ k % 256) weight
      ∙ ap (λ t. 8 * L / t % 256) (power_256 m)

  -- Each is the message's.
  message-byte : (x : ℕ) → IsByte (8 * L) r x (byte x)
  message-byte x = by (dec_lt x L) (ℕ_discrete x L) (dec_lt (x + 8) (64 * blocks_of_bytes L)) (dec_lt x (64 * blocks_of_bytes L))
    where
      at : (y : ℕ) → byte x ≡ y → IsByte (8 * L) r x y → IsByte (8 * L) r x (byte x)
      at y e = subst (IsByte (8 * L) r x) (sym e)

      by : Dec (x < L) → Dec (x ≡ L) → Dec (x + 8 < 64 * blocks_of_bytes L) → Dec (x < 64 * blocks_of_bytes L) → IsByte (8 * L) r x (byte x)
      by (yes l) e h t = at (get_or r x 0) (byte_of_record x l) (in_record (8 * L) r x (omega arith))
      by (no l) (yes e) h t =
          at (cut_after 7 (get_or r x 0))
          (byte_128 x e ∙ sym (ap (cut_after 7) (get_or-eq_default r 0 {n = x} (omega arith))))
          (record_end (8 * L) r x 7 (omega arith) (omega arith))
      by (no l) (no e) (yes h) t =
          at 0 (byte-zero x (omega arith) h) (past_record (8 * L) r x (omega arith) (omega (arith, blocks_of_bytes_lem L)))
      by (no l) (no e) (no h) (yes t) =
          let m : ℕ = 64 * blocks_of_bytes L - 1 - x in
          at (8 * L / 2 ^ (8 * m) % 256) (byte-length x m (omega arith) (omega arith))
          (length-byte (8 * L) r x m (omega (arith, blocks_of_bytes_lem L)) (omega arith))
      by (no l) (no e) (no h) (no t) =
          at 0 (get_or-eq_default (padded_bytes r) 0 {n = x} (omega (arith, all_long)))
          (λ j l.
          let past : 512 * blocks (8 * L) - 1 - (8 * x + j) ≡ 0 = omega (arith, blocks_of_bytes_lem L) in
          ap (λ t. t % 2) (zero-div (2 ^ (7 - j)))
          ∙ sym
          (message-length (8 * L) (bit_of_bytes r) (8 * x + j) (omega (arith, blocks_of_bytes_lem L))
          ∙ ap (λ k. 8 * L / 2 ^ k % 2) past
          ∙ ap (λ t. t % 2) (div-one (8 * L))
          ∙ omega arith))

  pub padded-message : message (8 * L) (bit_of_bytes r) ≡ bit_of_bytes (padded_bytes r)
  unfolding bit_of_bytes
  padded-message =
      fun_ext (λ k. ap (message (8 * L) (bit_of_bytes r)) (sym (div-add-mod k 8)) ∙ sym (message-byte (k / 8) (k % 8) (omega arith)))

  -- 13 and 14 do not come up
  pub whole_handed : (next : Outcome) → handed_answer our_limit (8 * L) r next ≡ cond (ltb most_bytes L) (Err LengthOutOfRange) next
  unfolding handed_answer record_bytes_answer
  whole_handed next =
      let size : length r ≡ packed_length (8 * L) = omega arith in
      let whole : 8 * L % 8 ≡ 0 = omega arith in
      ours_stand Outcome Err (record_bytes_answer (8 * L) r) (8 * L) next
      ∙ rw (in_range L, eq-eqb (length r) (packed_length (8 * L)) size, spare_none (8 * L) r whole)

pub whole_bytes : WholeBytes
unfolding digest_bytes digest_of
whole_bytes =
    record {
      range = in_range;
      block_count_lem = blocks_of_bytes_lem;
      padded = padded-message;
      digest = λ r. ap₂ (λ m c. bytes_of (chaining_value m c)) (padded-message r) (blocks_of_bytes_lem (length r));
      answer = λ r room. whole_handed r _;
    }
