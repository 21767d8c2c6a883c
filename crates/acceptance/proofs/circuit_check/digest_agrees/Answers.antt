-- Each digest wire reads as its bit of the digest where `all` says so; where it does not, a wire is another.
use Rattle.std.proofs.Common.{◌≡◌, ℕ, ◌+◌, ◌<◌, ◌≤◌, Bool, true, false, sym, refl, arith, rules, tests}
use Rattle.std.proofs.lemmas.Iterator.{YieldsList-from_range, cases_from_all}
use Rattle.std.specs.Bool.{MatchBool}
use Rattle.assignment.proofs.Places.{all_places}
use Rattle.assignment.specs.Assignment.{entry}
use Rattle.encoding.specs.Bits.{bit_of_bytes}
use Rattle.acceptance.proofs.Acceptance.{same_iff}
use Rattle.acceptance.proofs.circuit_check.Refusals.{differs}
use Rattle.acceptance.specs.Check.{same}
use Rattle.acceptance.proofs.circuit_check.digest_agrees.Goals as goal

told : (f g : ℕ → ℕ) (r : Bool)
    → MatchBool r ((k : ℕ) → 0 ≤ k → k < 0 + 256 → f k ≡ g k) ((k : ℕ) × (0 ≤ k) × (k < 0 + 256) × (f k ≡ g k → ⊥)) → r ≡ same 256 f g
told f g true all = sym ((same_iff 256 f g).1 (λ k l. all k (omega arith) (omega arith)))
told f g false (k, _, l, other) = sym (differs 256 f g k (omega arith) other)

pub returns : goal.returns
returns c =
    let a = c.args in
    let f : ℕ → ℕ = λ k. entry a.assignment.now (1 + k) in
    let g : ℕ → ℕ = bit_of_bytes a.digest.now in
    told f g _
    (all_places 0 256 (λ k. f k ≡ g k) (λ k. f k ≡ g k → ⊥) _
    (cases_from_all _ _ _ (λ k. f k ≡ g k) (λ k. f k ≡ g k → ⊥) c.all.ensures.ran (YieldsList-from_range 0 256 256 refl refl)
    (λ x q k. search (rules, tests)) (λ x q k. search (rules, tests))))
