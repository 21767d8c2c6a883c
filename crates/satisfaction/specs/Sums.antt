-- What a row's terms come to, term by term: a device of the contracts of the check's parts. What `check` answers is said without it.
use Rattle.std.specs.Prelude.{cond, ℕ, ◌+◌, ◌-◌, ◌%◌, ltb}
use Rattle.field.specs.Field.{p}
use Rattle.forms.specs.declared.terms.Counts.{Counts}
use Rattle.satisfaction.specs.declared.sums.Sums.{Sums}

-- x is added to the part of term t
abbrev pub added : Sums → Counts → ℕ → ℕ → Sums
added s n t x =
    cond (ltb t n.a) (record { a = (s.a + x) % p; b = s.b; c = s.c })
    (cond (ltb (t - n.a) n.b) (record { a = s.a; b = (s.b + x) % p; c = s.c })
    (record { a = s.a; b = s.b; c = (s.c + x) % p }))
