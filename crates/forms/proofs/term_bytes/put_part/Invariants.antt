-- Turn i writes term i behind the bytes of those before it.
use Rattle.std.proofs.Common.{◌≡◌, ◌+◌, ◌*◌, take}
use Rattle.encoding.specs.Written.{Written}
use Rattle.forms.specs.TermBytes.{terms_bytes}
use Rattle.forms.proofs.term_bytes.put_part.Given as goal

abbrev pub invariant-loop-term : goal.invariant-loop-term
invariant-loop-term l =
    (l.end ≡ l.at + 12 * l.term-index) × Written l.at (terms_bytes (take l.term-index l.terms)) l.initial.out l.out
