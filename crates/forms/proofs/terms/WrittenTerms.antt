-- Three pieces and five that are written each from the end of the one before on are written as one; and what stands at the front, before what
-- stood there, was written there.
use Rattle.std.proofs.Common.{◌≡◌, ℕ, ◌+◌, ◌≤◌, List, ◌++◌, length, drop, sym, refl, ap, ◌∙◌, arith}
use lib.Seq.{sets-eq}
use Rattle.encoding.proofs.Written.{written_then}
use Rattle.encoding.specs.Written.{Written}

pub three_pieces : {at : ℕ} {xs ys zs l₀ l₁ l₂ l₃ : List ℕ} → Written at xs l₀ l₁ → Written (at + length xs) ys l₁ l₂
    → Written (at + length (xs ++ ys)) zs l₂ l₃ → Written at (xs ++ ys ++ zs) l₀ l₃
three_pieces p q r = written_then _ refl (written_then _ refl p q) r

pub five_pieces : {at : ℕ} {vs ws xs ys zs l₀ l₁ l₂ l₃ l₄ l₅ : List ℕ} → Written at vs l₀ l₁ → Written (at + length vs) ws l₁ l₂
    → Written (at + length (vs ++ ws)) xs l₂ l₃ → Written (at + length (vs ++ ws ++ xs)) ys l₃ l₄
    → Written (at + length (vs ++ ws ++ xs ++ ys)) zs l₄ l₅ → Written at (vs ++ ws ++ xs ++ ys ++ zs) l₀ l₅
five_pieces p q r s t = three_pieces (three_pieces p q r) s t

pub front-written : {xs l l' : List ℕ} (n : ℕ) → length xs ≡ n → n ≤ length l → l' ≡ xs ++ drop n l → Written 0 xs l l'
front-written {xs} {l} n long room e =
    let end : n ≡ 0 + length xs = omega arith in
    record { left = e ∙ ap (λ k. xs ++ drop k l) end ∙ sym (sets-eq xs l 0 (omega arith)) }
