-- Every figure of the table is the one that the paper states: both columns compute to the same numbers.
use Rattle.std.proofs.Common.{◌≡◌, map, refl}
use Rattle.assignment.specs.Assignment.{entry}
use Rattle.assignment.specs.BelowPrime.{limit_answer}
use Rattle.limits.specs.Blocks.{blocks}
use Rattle.limits.specs.Handed.{handed_answer, record_bytes_answer}
use Rattle.limits.specs.Limit.{allowance, length_answer}
use Rattle.record.specs.Check.{check_answer}
use Rattle.circuit.specs.Wires.{wire_count}
use Rattle.circuit.specs.GivenRow.{given_row}
use Rattle.circuit.specs.Places.{row_count}
use Rattle.record.specs.RowAnswer.{row_answer}
use Rattle.encoding.specs.Bits.{bit_of_bytes, number}
use Rattle.encoding.specs.Bytes.{from_least_first, least_first, twos_complement}
use Rattle.encoding.specs.Lowest.{lowest_failing}
use Rattle.encoding.specs.Packed.{spare_bits}
use Rattle.encoding.specs.Sequence.{tab}
use Rattle.field.specs.Field.{residue}
use Rattle.figures.specs.Figures.{Figure, table}
use Rattle.forms.specs.Coefficients.{signed}
use Rattle.listing.specs.Line.{parse_of}
use Rattle.listing.specs.Request.{checked, request_of, within}
use Rattle.acceptance.specs.Check.{circuit_check}
use Rattle.sm3.specs.Sm3.{P0, P1, constant, rotated_constant}
use Rattle.sm3.specs.Words.{rotate_left}
use Rattle.text.specs.Decimal.{is_digit}
use Rattle.text.specs.Field.{continues, field_from, field_of}

pub figures : map (λ (f : Figure). f.computed) table ≡ map (λ (f : Figure). f.stated) table
unfolding residue signed twos_complement blocks wire_count row_count handed_answer allowance record_bytes_answer length_answer spare_bits number bit_of_bytes row_answer given_row check_answer circuit_check limit_answer lowest_failing entry least_first from_least_first tab P0 P1 rotated_constant constant rotate_left request_of checked within parse_of field_of field_from continues is_digit
figures = refl
