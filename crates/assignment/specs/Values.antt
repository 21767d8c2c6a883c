-- What the structs of values hold: a device of the contracts of the producer's and the check's parts. What `produce` leaves and
-- what `check` answers is said without it.
use Rattle.std.specs.Prelude.{◌≡◌, ℕ, List}
use Rattle.assignment.specs.Sum.{IsSum}
use Rattle.assignment.specs.declared.values.ExpansionValues.{ExpansionValues}
use Rattle.assignment.specs.declared.values.RoundValues.{RoundValues}
use Rattle.sm3.specs.Sm3.{FF, GG, P0, P1, SS2, truncated, expanded, mixed, sum_tt1, sum_tt2, sum_u}
use Rattle.sm3.specs.declared.state.State.{State}

-- q, P1(q) and Wj, of the words x before it
pub record IsExpansion (r : ExpansionValues) (x : List ℕ) (j : ℕ) : Type 0 where
  pub q : r.q ≡ mixed x j
  pub p1 : r.p1 ≡ P1 (mixed x j)
  pub word : r.word ≡ expanded x j

-- the words and sums of round j on s; `word` is Wj, `w'` is W'j
pub record IsRound (r : RoundValues) (j word w' : ℕ) (s : State) : Type 0 where
  pub u : IsSum r.u (sum_u j s)
  pub ss2 : r.ss2 ≡ SS2 j s
  pub ff : r.ff ≡ FF j s.a s.b s.c
  pub gg : r.gg ≡ GG j s.e s.f s.g
  pub tt1 : IsSum r.tt1 (sum_tt1 j w' s)
  pub tt2 : IsSum r.tt2 (sum_tt2 j word s)
  pub p0 : r.p0 ≡ P0 (truncated (sum_tt2 j word s))
