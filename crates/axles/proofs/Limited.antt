-- A record of 504 bits has two blocks, which the partner's limit allows.
use Rattle.std.specs.Prelude.{Err}
use mathlib.Core.Path.{ap}
use native.Mathlib.Omega.{arith}
use borrow.Author.Tests.{ne_eqb}
use Rattle.axles.specs.Limited.{AxlesLimited}
use Rattle.axles.specs.Produce.{axles_produce_answer}
use Rattle.axles.specs.RowAnswer.{axles_row_answer}
use Rattle.circuit.specs.Axles.{axle_bits}
use Rattle.limits.proofs.limit.Decided.{within_limit}
use Rattle.limits.proofs.limit.Tests.{length_passes}
use Rattle.limits.specs.Blocks.{blocks}
use Rattle.limits.specs.Handed.{handed_answer, record_bytes_answer}
use Rattle.limits.specs.Limit.{Allows, allowance, limited, partner_limit}

pub partner_allows : Allows partner_limit axle_bits
unfolding blocks
partner_allows = record { limit = (omega arith, omega arith); fits = omega arith }

pub axles-limited : AxlesLimited
unfolding axles_produce_answer handed_answer allowance record_bytes_answer blocks
axles-limited =
    record {
      row =
          λ lower upper k room.
          ap (λ t. limited Err (λ x. x) t (axles_row_answer lower upper k room)) (within_limit partner_limit axle_bits partner_allows);
      check = λ lower upper d a. length_passes partner_limit axle_bits _ partner_allows;
      produce = λ lower upper r room wrong. rw (ne_eqb _ _ wrong);
    }
