-- The plate, the comma where it ends and the blind behind that are written one behind the other. So they stand as in any line of theirs.
use mathlib.Core.List.{[], ◌∷◌, ◌++◌, append_assoc}
use mathlib.Core.Path.{◌≡◌, ◌∙◌}
use Prim.Native.Nat.{◌+◌}
use native.Mathlib.Omega.{arith}
use lib.ListN.{length, length-append}
use Rattle.encoding.proofs.Written.{length-written, written_as, written_one, written_then}
use Rattle.text.proofs.Put.{put_copied}
use Rattle.passage.proofs.Writing.{same_asked}
use Rattle.text.specs.Text.{comma}
use Rattle.passage.proofs.write.put_tail.Goals as goal

pub returns : goal.returns
returns c =
    let p = c.args.plate.now in
    let b = c.args.blind.now in
    let line = c.args.line.now in
    let end : 30 ≡ 20 + length p = omega arith in
    let behind : 31 ≡ 20 + length (p ++ (comma ∷ [])) = omega (arith, length-append p (comma ∷ [])) in
    let plate = (put_copied line 20 p _ 10 (omega arith) c.copy_from_slice.ensures.after (omega arith)).leaves in
    let front = written_then 30 end plate (written_one 30 comma _) in
    let tail =
    written_as (append_assoc p (comma ∷ []) b)
    (written_then 31 behind front
    (put_copied _ 31 b _ 32 (omega (arith, length-written front)) c.copy_from_slice-2.ensures.after (omega arith)).leaves) in
    record {
      value = λ n. c.ask_tail.ensures ∙ same_asked n p b c.requires.plate c.requires.blind (omega arith) tail;
      line_after = tail;
    }
