-- With our limit the check of a record asks the length as before; then comes that of its circuit, which is the same function with signed
-- coefficients.
use mathlib.Core.Path.{◌∙◌, fun_ext}
use Rattle.circuit.specs.declared.circuits.Circuit.TheVariants.{Record}
use Rattle.limits.proofs.Limited.{ours_length}
use Rattle.record.specs.Check.{check_answer}
use Rattle.record.specs.Former.{AnswerUnaltered, former_answer}
use Rattle.acceptance.proofs.Unaltered.{same_answer}

pub answer_unaltered : AnswerUnaltered
unfolding check_answer former_answer
answer_unaltered =
    fun_ext (λ n. fun_ext (λ d. fun_ext (λ a. ours_length n _ ∙ rw (same_answer (Record n) d a))))
