-- Turn i writes byte i: what is left of the number has been divided by 256 i times. At the end the n bytes are all there is of their part.
use Rattle.std.proofs.Common.{◌≡◌, ◌+◌, ◌-◌, ◌/◌, ◌%◌, ◌++◌, length, set, take, drop, ap, sym, subst, ◌∙◌, zero-add, arith, length-drop, length-take}
use Rattle.std.proofs.lemmas.List.{drop_all}
use mathlib.Core.List.{append-nil}
use native.Mathlib.Nat.{div-one}
use Rattle.encoding.proofs.Bytes.{length-least_first, next-byte, next-left}
use Rattle.encoding.proofs.Chunk.{part_written}
use Rattle.encoding.proofs.Written.{written-front, written_none}
use Rattle.encoding.specs.Bytes.{least_first}
use Rattle.encoding.specs.Sequence.{tab}
use Rattle.encoding.specs.Written.{Written}
use Rattle.encoding.proofs.write.put_number.Goals as goal

pub loop-byte-init : goal.loop-byte-init
unfolding least_first tab
loop-byte-init c = (omega arith, sym (div-one _), written_none _ _)

pub loop-byte-preserved : goal.loop-byte-preserved
loop-byte-preserved c =
    let head = c.loop-byte in
    let i = head.byte-index in
    let x = c.args.x in
    let before = take (c.args.at + c.args.n - c.args.at) (drop c.args.at c.args.out.now) in
    let front = rw zero-add at (next-byte 0 i x head.invariant.2) in (
      omega (arith, length-take (c.args.at + c.args.n - c.args.at) (drop c.args.at c.args.out.now), length-drop c.args.at c.args.out.now),
      ap (λ k. k / 256) head.invariant.1 ∙ next-left x i,
      subst (λ k. Written 0 (least_first (i + 1) x) before (set head.byte-items i (k % 256))) (sym head.invariant.1) front,
    )

pub returns : goal.returns
returns c =
    let a = c.args in
    let before = take (a.at + a.n - a.at) (drop a.at a.out.now) in
    let size : length before ≡ a.n = omega (arith, length-take (a.at + a.n - a.at) (drop a.at a.out.now), length-drop a.at a.out.now) in
    let end : c.loop-byte.byte-index ≡ a.n = omega arith in
    let long = length-least_first a.n a.x in
    let whole = written-front a.n long (omega arith) (rw end at c.loop-byte.invariant.2) in
    part_written a.at a.n _ _ a.out.now
    (whole ∙ ap (λ xs. least_first a.n a.x ++ xs) (drop_all a.n before (omega arith)) ∙ append-nil (least_first a.n a.x)) long c.requires
