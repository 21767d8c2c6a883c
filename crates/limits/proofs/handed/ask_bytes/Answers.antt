-- The tests are the refusals in their order.
use mathlib.Core.Path.{◌∙◌, sym}
use borrow.Author.Tests.{eq-eqb, ne_eqb}
use Rattle.limits.specs.Handed.{record_bytes_answer}
use Rattle.limits.proofs.handed.ask_bytes.Goals as goal

pub returns-then-bytes-packed_length : goal.returns-then-bytes-packed_length
unfolding record_bytes_answer
returns-then-bytes-packed_length c = simp (ne_eqb _ _ (λ e. c.if-bytes-packed_length.true (e ∙ sym c.packed_length.ensures)))

pub returns-then-spare_bits-ne0 : goal.returns-then-spare_bits-ne0
unfolding record_bytes_answer
returns-then-spare_bits-ne0 c =
    simp (
      eq-eqb _ _ (c.if-bytes-packed_length.false ∙ c.packed_length.ensures),
      ne_eqb _ _ (λ e. c.if-spare_bits-ne0.true (c.spare_bits.ensures ∙ e)),
    )

pub returns : goal.returns
unfolding record_bytes_answer
returns c =
    simp (
      eq-eqb _ _ (c.if-bytes-packed_length.false ∙ c.packed_length.ensures),
      eq-eqb _ _ (sym c.spare_bits.ensures ∙ c.if-spare_bits-ne0.false),
    )
