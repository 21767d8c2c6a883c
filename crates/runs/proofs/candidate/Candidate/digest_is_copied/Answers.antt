-- Both wires of each bit are the assignment's, and where `all` says so the one has what the other has.
use Rattle.std.proofs.Common.{◌≡◌, ℕ, ◌+◌, ◌-◌, Bool, true, refl, ap, ◌∙◌, subst, arith, rules, tests}
use Rattle.std.proofs.lemmas.Iterator.{YieldsList-from_range, cases_from_all, serves_from_Range}
use Rattle.std.specs.Bool.{MatchBool}
use Rattle.assignment.proofs.Places.{all_places}
use Rattle.assignment.specs.Assignment.{entry}
use Rattle.block.specs.Wires.{result_at}
use Rattle.circuit.specs.Wires.{block_first, digest_first, wire_count}
use Rattle.runs.proofs.candidate.Candidate.digest_is_copied.Goals as goal

told : (A B : Type 0) (r : Bool) → MatchBool r A B → r ≡ true → A
told A B r h e = subst (λ r. MatchBool r A B) e h

pub all-requires-clause-callable : goal.all-requires-clause-callable
unfolding wire_count
all-requires-clause-callable c =
    let s = c.args.self.now in
    serves_from_Range (λ x q k. search (rules, tests))
    (λ x low high.
    (omega arith, omega (arith, c.block_first-last.ensures.0, c.block_count.ensures, s.whole), omega (arith, s.whole)))

pub returns : goal.returns
returns c =
    let s = c.args.self.now in
    let F : ℕ = c.block_first-last.result.0 in
    let f : ℕ → ℕ = λ k. entry s.assignment.now (digest_first + k) in
    let g : ℕ → ℕ = λ k. entry s.assignment.now (F + result_at + k) in
    let first = c.block_first-last.ensures.0 ∙ ap (λ n. block_first (n - 1)) c.block_count.ensures.0 in
    λ e k l.
    told _ _ _
    (all_places 0 256 (λ k. f k ≡ g k) (λ k. f k ≡ g k → ⊥) _
    (cases_from_all _ _ _ (λ k. f k ≡ g k) (λ k. f k ≡ g k → ⊥) c.all.ensures.ran (YieldsList-from_range 0 256 256 refl refl)
    (λ x q k. search (rules, tests)) (λ x q k. search (rules, tests))))
    e k (omega arith) (omega arith)
    ∙ ap (λ F. entry s.assignment.now (F + result_at + k)) first
