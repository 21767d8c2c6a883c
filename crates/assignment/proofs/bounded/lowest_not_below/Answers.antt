-- Before each turn all entries of the runs before are below the limit, so the answer is that of the wires from there on; a run that has an
-- entry that is not decides it.
use Rattle.std.proofs.Common.{◌≡◌, ℕ, ◌+◌, ◌-◌, ◌*◌, sym, ap, ◌∙◌, arith}
use Rattle.assignment.proofs.EntriesBelow.{run_below, run_found}
use Rattle.assignment.specs.Bounded.{lowest_not_below}
use Rattle.assignment.proofs.bounded.lowest_not_below.Goals as goal

-- run j has 256 entries
run_length : (j : ℕ) → 256 ≡ 256 * (j + 1) - 256 * j
run_length j = omega arith

next-run : (j : ℕ) → 256 * j + 256 ≡ 256 * (j + 1)
next-run j = omega arith

pub returns-in-Some : goal.returns-in-Some
returns-in-Some c =
    let l = c.loop-j in
    sym
    (l.invariant.1
    ∙ run_found _ _ _ (256 * l.j) 256 (omega arith) _
    (ap (lowest_not_below _ _ (256 * l.j)) (run_length l.j) ∙ sym c.lowest_in_run-lowest.ensures ∙ c.in-Some.is))

pub loop-j-preserved : goal.loop-j-preserved
loop-j-preserved c =
    let l = c.loop-j in
    let a = c.args in (
      omega arith,
      l.invariant.1
          ∙ run_below _ _ _ (256 * l.j) 256 (omega arith)
          (ap (lowest_not_below _ _ (256 * l.j)) (run_length l.j) ∙ sym c.lowest_in_run-lowest.ensures ∙ c.in_default.is)
          ∙ ap (λ k. lowest_not_below a.limit a.assignment.now k (a.n - k)) (next-run l.j),
    )
