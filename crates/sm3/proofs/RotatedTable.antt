-- The table is the list of all T, rotated, so T of round j stands at place j.
use Rattle.std.proofs.Common.{◌≡◌, ℕ, ◌<◌, List, get_or, refl, ap, ◌∙◌}
use Rattle.sm3.specs.Sm3.{constant, rotated_constant}
use Rattle.sm3.specs.Words.{rotate_left}
use Rattle.sm3.specs.declared.constants.TheConstants.{ROTATED}
use Rattle.encoding.proofs.Tab.{get_or-tab}
use Rattle.encoding.specs.Sequence.{tab}

-- T of round j in a list of all T
pub table_at : (t : List ℕ) (j : ℕ) → j < 64 → t ≡ tab 64 rotated_constant → get_or t j 0 ≡ rotated_constant j
table_at t j h e = ap (λ (l : List ℕ). get_or l j 0) e ∙ get_or-tab 64 rotated_constant j 0 h

-- antt computes the rule's 64 words; they are those of the table
pub table : ROTATED ≡ tab 64 rotated_constant
unfolding constant tab rotate_left rotated_constant
table = refl

pub table_place : (j : ℕ) → j < 64 → get_or ROTATED j 0 ≡ rotated_constant j
table_place j h = table_at ROTATED j h table
