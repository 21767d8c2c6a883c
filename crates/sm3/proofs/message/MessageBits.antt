-- The bits of a message, by its definition: the record's, then the bit 1, zeros, and the bit length at the end.
use mathlib.Core.Logic.{by_cases}
use Rattle.std.proofs.Common.{◌≡◌, ℕ, ◌-◌, ◌*◌, ◌/◌, ◌%◌, ◌^◌, ◌<◌, ◌≤◌, sym, ◌∙◌, arith, le-ltb, lt-ltb, eq-eqb, ne_eqb}
use mathlib.Core.Path.{fun_ext}
use native.Mathlib.Decide.{dec_lt}
use Rattle.limits.specs.Blocks.{blocks}
use Rattle.sm3.specs.Message.{message}

module _ (n : ℕ) where
  pub message_content : (r : ℕ → ℕ) (k : ℕ) → k < n → message n r k ≡ r k
  unfolding message
  message_content r k h = rw (lt-ltb k n h)

  pub message_padding : (r t : ℕ → ℕ) (k : ℕ) → n ≤ k → message n r k ≡ message n t k
  unfolding message
  message_padding r t k h = rw (le-ltb k n h)

  -- so a message is known by the record's n bits
  pub message_congruent : (r t : ℕ → ℕ) → ((k : ℕ) → k < n → r k ≡ t k) → message n r ≡ message n t
  message_congruent r t same =
      fun_ext
      (λ k.
      by_cases (dec_lt k n) (λ l. message_content r k l ∙ same k l ∙ sym (message_content t k l))
      (λ past. message_padding r t k (omega arith)))

  module _ (r : ℕ → ℕ) (k : ℕ) where
    pub message-one : k ≡ n → message n r k ≡ 1
    unfolding message
    message-one e = rw (le-ltb k n (omega arith), eq-eqb k n e)

    pub message-zero : n < k → k < 512 * blocks n - 64 → message n r k ≡ 0
    unfolding message
    message-zero h l = rw (le-ltb k n (omega arith), ne_eqb k n (omega arith), lt-ltb k (512 * blocks n - 64) l)

    pub message-length : 512 * blocks n - 64 ≤ k → message n r k ≡ n / 2 ^ (512 * blocks n - 1 - k) % 2
    unfolding message blocks
    message-length h = rw (le-ltb k n (omega arith), ne_eqb k n (omega arith), le-ltb k (512 * blocks n - 64) h)
