-- The terms of A, of B and of C are written one list behind the other.
use Rattle.std.proofs.Common.{◌<◌, ◌++◌, ap, arith, length, length-append, subst, sym}
use Rattle.encoding.proofs.Written.{length-written}
use Rattle.field.specs.Field.{p}
use Rattle.forms.proofs.shape.All.{all_behind, all_front}
use Rattle.forms.proofs.term_bytes.TermBytes.{terms_then}
use Rattle.forms.specs.Shape.{All}
use Rattle.forms.specs.declared.form.Term.{Term}
use Rattle.forms.proofs.term_bytes.put_terms.Goals as goal

pub put_part-requires-2 : goal.put_part-requires-2
put_part-requires-2 c =
    let t = c.args.terms.now in
    let b = all_behind (λ (u : Term). u.residue < p) t.a t.b (all_front _ (t.a ++ t.b) t.c c.requires.1) in (
      omega (arith, c.requires.0, c.len-b.ensures, ap length c.as_slice-2.ensures, length-written c.put_part.ensures, length-append (t.a ++ t.b) t.c, length-append t.a t.b),
      subst (All (λ (u : Term). u.residue < p)) (sym c.as_slice-2.ensures) b,
    )

pub put_part-requires-3 : goal.put_part-requires-3
put_part-requires-3 c =
    let t = c.args.terms.now in (
      omega (arith, c.requires.0, c.len-b.ensures, c.len.ensures, ap length c.as_slice-3.ensures, length-written c.put_part.ensures, length-written c.put_part-2.ensures, length-append (t.a ++ t.b) t.c, length-append t.a t.b),
      subst (All (λ (u : Term). u.residue < p)) (sym c.as_slice-3.ensures) (all_behind _ (t.a ++ t.b) t.c c.requires.1),
    )

pub returns : goal.returns
returns c =
    let t = c.args.terms.now in
    let ab = terms_then t.a t.b _ (omega (arith, c.len-b.ensures)) (rw c.as_slice.ensures at c.put_part.ensures) (rw c.as_slice-2.ensures at c.put_part-2.ensures) in
    terms_then (t.a ++ t.b) t.c _ (omega (arith, c.len-b.ensures, c.len.ensures, length-append t.a t.b)) ab (rw c.as_slice-3.ensures at c.put_part-3.ensures)
