-- The words are packed, and behind them stands the byte of the last wire.
use Prim.Native.Nat.{◌-◌, ◌*◌, ◌/◌}
use native.Mathlib.Omega.{arith}
use Rattle.assignment.specs.Assignment.{entry}
use Rattle.encoding.proofs.ByteBits.{length-bytes_of-bits}
use Rattle.encoding.proofs.Written.{written_as, written_one, written_then}
use Rattle.packing.proofs.WordBytes.{packed-words}
use Rattle.packing.proofs.pack.put_packed.Goals as goal

pub put_words-requires : goal.put_words-requires
put_words-requires c =
    let pre = c.requires in
    (omega arith, omega arith, λ w l. pre.3 w (omega arith))

pub overflow_mul-out : goal.overflow_mul-out
overflow_mul-out c =
    omega (arith, c.read-last.ensures, c.requires.3 (c.args.wires - 1) (omega arith))

pub overflow_cast-out : goal.overflow_cast-out
overflow_cast-out c =
    omega (arith, c.read-last.ensures, c.requires.3 (c.args.wires - 1) (omega arith))

pub returns : goal.returns
returns c =
    let a = c.args in
    let s = entry a.assignment.now in
    let words = a.wires / 32 in
    written_as (packed-words a.wires c.requires.0 s c.read-last.result c.read-last.ensures)
    (written_then (4 * words) (omega (arith, length-bytes_of-bits (4 * words) s)) c.put_words.ensures (written_one (4 * words) (128 * c.read-last.result) _))
