-- The bytes of a record from a place on, with zeros behind them: past a list's end `get_or` gives 0.
use mathlib.Core.Logic.{by_cases}
use Rattle.std.proofs.Common.{◌≡◌, ℕ, ◌+◌, ◌-◌, ◌<◌, ◌≤◌, min, List, ◌++◌, length, get_or, take, drop, sym, ap, ◌∙◌, arith, length-append, length-drop, length-take, get_or-drop, get_or-take}
use Rattle.std.proofs.Math.ListN.{get_or-append, get_or-eq_default}
use Rattle.std.proofs.lemmas.Grind.{same_number_lists}
use Rattle.std.proofs.lemmas.List.{get_or-append_right}
use native.Mathlib.Decide.{dec_lt}
use Rattle.encoding.proofs.Tab.{get_or-tab, length-tab}
use Rattle.encoding.specs.Sequence.{tab}

module _ (bytes : List ℕ) (at m : ℕ) (is : m ≡ min at (length bytes)) (short : length bytes ≤ at + 64) where
  rest : List ℕ
  rest = take (length bytes - m) (drop m bytes)

  length-rest : length rest ≡ length bytes - m
  unfolding rest
  length-rest = omega (arith, length-take (length bytes - m) (drop m bytes), length-drop m bytes)

  get_or-rest : (k : ℕ) → k < length bytes - m → get_or rest k 0 ≡ get_or bytes (at + k) 0
  unfolding rest
  get_or-rest k h =
      let place : m + k ≡ at + k = omega arith in
      get_or-take (length bytes - m) (drop m bytes) k 0 h ∙ get_or-drop m bytes k 0 ∙ ap (λ i. get_or bytes i 0) place

  pub tail_copied : (ys zs : List ℕ) → ys ≡ take (length bytes - m) (drop m bytes) → zs ≡ tab 64 (λ k. 0)
      → ys ++ drop (length (take (length bytes - m) (drop m bytes))) zs ≡ tab 64 (λ k. get_or bytes (at + k) 0)
  unfolding rest
  tail_copied ys zs copied zeros =
      let n = length bytes - m in
      let left = drop (length rest) zs in
      let size : length zs ≡ 64 = ap length zeros ∙ length-tab 64 (λ k. 0) in
      let front : length ys ≡ n = ap length copied ∙ length-rest in
      let whole : length (ys ++ left) ≡ 64 =
      omega (arith, length-append ys left, length-drop (length rest) zs, length-rest, front, size) in
      same_number_lists (ys ++ left) (tab 64 (λ k. get_or bytes (at + k) 0)) (whole ∙ sym (length-tab 64 (λ k. get_or bytes (at + k) 0)))
      (λ k l.
      let below : k < 64 = omega (arith, whole) in
      by_cases (dec_lt k n)
      (λ h.
      let here : get_or (ys ++ left) k 0 ≡ get_or ys k 0 = get_or-append ys left 0 k (omega arith) in
      here ∙ ap (λ (xs : List ℕ). get_or xs k 0) copied ∙ get_or-rest k h)
      (λ past.
      let behind : get_or (ys ++ left) k 0 ≡ get_or left (k - n) 0 = get_or-append_right ys left n k 0 front (omega arith) in
      let place : get_or left (k - n) 0 ≡ get_or zs (length rest + (k - n)) 0 = get_or-drop (length rest) zs (k - n) 0 in
      let zero : get_or zs (length rest + (k - n)) 0 ≡ 0 =
      ap (λ (xs : List ℕ). get_or xs (length rest + (k - n)) 0) zeros
      ∙ get_or-tab 64 (λ k. 0) (length rest + (k - n)) 0 (omega (arith, length-rest)) in
      let none : get_or bytes (at + k) 0 ≡ 0 = get_or-eq_default bytes 0 (omega arith) in
      omega arith)
      ∙ sym (get_or-tab 64 (λ k. get_or bytes (at + k) 0) k 0 below))
