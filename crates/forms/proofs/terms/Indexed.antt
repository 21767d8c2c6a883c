-- A term of three lists one behind the other stands in the first, or past it in the second, or past both in the third.
use Rattle.std.proofs.Common.{◌≡◌, ℕ, ◌+◌, ◌-◌, ◌<◌, ◌≤◌, List, ◌++◌, length, get_or, ap, ◌∙◌, arith, length-append, get_or-append-add}
use lib.ListN.{get_or-append}
use Rattle.forms.specs.Positions.{one}
use Rattle.forms.specs.Rows.{◌·◌}
use Rattle.forms.specs.declared.form.Term.{Term}

-- what stands where there is no term
abbrev pub none : Term
none = 0 · one

pub past : (xs ys : List Term) (t : ℕ) (d : Term) → length xs ≤ t → get_or (xs ++ ys) t d ≡ get_or ys (t - length xs) d
past xs ys t d l =
    let place : t ≡ length xs + (t - length xs) = omega arith in
    ap (λ i. get_or (xs ++ ys) i d) place ∙ get_or-append-add xs ys (t - length xs) d

module _ (xs ys zs : List Term) (t : ℕ) (d : Term) where
  pub in_first : t < length xs → get_or (xs ++ ys ++ zs) t d ≡ get_or xs t d
  in_first l = get_or-append (xs ++ ys) zs d t (omega (arith, length-append xs ys)) ∙ get_or-append xs ys d t l

  pub in_second : length xs ≤ t → t - length xs < length ys → get_or (xs ++ ys ++ zs) t d ≡ get_or ys (t - length xs) d
  in_second h l = get_or-append (xs ++ ys) zs d t (omega (arith, length-append xs ys)) ∙ past xs ys t d h

  pub in_third : length xs ≤ t → length ys ≤ t - length xs → get_or (xs ++ ys ++ zs) t d ≡ get_or zs (t - length xs - length ys) d
  in_third h l =
      let place : t - length (xs ++ ys) ≡ t - length xs - length ys = omega (arith, length-append xs ys) in
      past (xs ++ ys) zs t d (omega (arith, length-append xs ys)) ∙ ap (λ i. get_or zs i d) place
