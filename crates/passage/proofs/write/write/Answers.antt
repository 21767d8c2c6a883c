-- The tail is written and the numbers before it, so the line is whole when it is copied.
use mathlib.Core.List.{◌++◌, append-nil}
use mathlib.Core.Path.{◌≡◌, ◌∙◌, ap}
use native.Mathlib.Omega.{arith}
use lib.ListN.{drop, length}
use lib.Seq.{length-take-le}
use Rattle.encoding.proofs.Written.{length-written, written-front}
use Rattle.passage.proofs.LineParts.{length-line}
use Rattle.passage.proofs.Writing.{line_written}
use Rattle.passage.specs.Write.{line_of}
use Rattle.passage.proofs.write.write.Goals as goal

pub copy_from_slice-requires : goal.copy_from_slice-requires
copy_from_slice-requires c =
    let a = c.args in
    omega (
      arith,
      length-take-le 63 a.out.now c.if-out-lt-LINE_LENGTH.false,
      length-written (line_written a.numbers a.plate.now a.blind.now c.put_tail.ensures.line_after c.put_numbers.ensures),
    )

pub returns-clause-out_after : goal.returns-clause-out_after
returns-clause-out_after c =
    let a = c.args in
    let line = line_of a.numbers a.plate.now a.blind.now in
    let long : length line ≡ 63 = length-line a.numbers a.plate.now a.blind.now c.if-plate.false c.if-blind.false in
    let whole = written-front 63 long (omega arith) (line_written a.numbers a.plate.now a.blind.now c.put_tail.ensures.line_after c.put_numbers.ensures) in
    ap (λ l. l ++ drop 63 a.out.now) (c.copy_from_slice.ensures.after ∙ whole ∙ append-nil line)
