-- The check of axles goes on with that of its circuit, which is the same function with signed coefficients.
use mathlib.Core.Path.{fun_ext}
use Rattle.axles.specs.Check.{axles_check_answer}
use Rattle.axles.specs.Former.{AxlesAnswerUnaltered, former_axles_answer}
use Rattle.circuit.specs.declared.circuits.Circuit.TheVariants.{Axles}
use Rattle.acceptance.proofs.Unaltered.{same_answer}

pub axles-answer_unaltered : AxlesAnswerUnaltered
unfolding axles_check_answer former_axles_answer
axles-answer_unaltered = fun_ext (λ l. fun_ext (λ u. fun_ext (λ d. fun_ext (λ a. rw (same_answer (Axles l u) d a)))))
