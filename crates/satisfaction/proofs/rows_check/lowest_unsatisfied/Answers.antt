-- Before each turn all rows below row k hold, so the lowest failing row is that of the rows from k on. Where rows from k on hold for sure,
-- or row k by its form, a turn goes past them; else it sums up the terms of row k, and the sums of all of them tell whether it holds.
use mathlib.Core.Path.{◌∙◌, ap, subst, sym}
use native.Mathlib.Nat.{mod-lt, sub-zero}
use native.Mathlib.Omega.{arith}
use borrow.Author.Tests.{eq-eqb, ne_eqb}
use lib.Dec.{lit<}
use Rattle.assignment.specs.Assignment.{entry}
use Rattle.circuit.proofs.place.PlaceRange.{most_rows_lem}
use Rattle.circuit.proofs.shape.RowApart.{row_apart}
use Rattle.circuit.specs.Circuit.{row_at}
use Rattle.circuit.specs.Wires.{wire_count}
use Rattle.forms.proofs.shape.Apart.{Apart}
use Rattle.forms.specs.Rows.{Satisfied, row_of}
use Rattle.forms.specs.declared.form.Form.{Form}
use Rattle.runs.proofs.Reaching.{apart_reached}
use Rattle.satisfaction.proofs.Lowest.{lowest_end, lowest_fails, lowest-holds, lowest-past}
use Rattle.satisfaction.proofs.rows_check.RowByRow.{few, filled_as, row_below, row_judged, term_added, term_inside, term_within}
use Rattle.satisfaction.proofs.sums.TermByTerm.{residues, sums_none}
use Rattle.satisfaction.specs.Lowest.{lowest}
use Rattle.satisfaction.proofs.rows_check.lowest_unsatisfied.Goals as goal

pub row_count-end-requires : goal.row_count-end-requires
row_count-end-requires c = c.args.candidate.now.allowed

pub rows-init : goal.rows-init
rows-init c = record { within = omega arith; lower = ap (lowest _ _ 0) (sym (sub-zero _)) }

pub rows_held-held-requires : goal.rows_held-held-requires
rows_held-held-requires c = row_below c.rows.invariant c.if-k-end.false c.row_count-end.ensures.0

pub overflow_add-k : goal.overflow_add-k
overflow_add-k c =
    omega (arith, c.rows_held-held.ensures.0, most_rows_lem c.args.candidate.now.circuit c.args.candidate.now.allowed)

pub rows-smaller-then-held-gt0 : goal.rows-smaller-then-held-gt0
rows-smaller-then-held-gt0 c = omega (arith, c.if-held-gt0.true, c.rows_held-held.ensures.0)

pub rows-preserved-then-held-gt0 : goal.rows-preserved-then-held-gt0
rows-preserved-then-held-gt0 c =
    let held = c.rows_held-held.ensures in
    let inv = c.rows.invariant in
    record { within = held.0; lower = inv.lower ∙ lowest-past _ _ _ _ _ held.0 held.1.each }

pub form_at-form-requires : goal.form_at-form-requires
form_at-form-requires c =
    (c.args.candidate.now.allowed, row_below c.rows.invariant c.if-k-end.false c.row_count-end.ensures.0)

pub form_holds-requires : goal.form_holds-requires
form_holds-requires c =
    let C = c.args.candidate.now.circuit in
    let form = c.form_at-form.ensures in
    let below = row_below c.rows.invariant c.if-k-end.false c.row_count-end.ensures.0 in (
      c.args.candidate.now.one,
      c.args.candidate.now.below,
      apart_reached (wire_count C) _ c.form_at-form.result c.args.candidate.now.whole
          (subst (Apart (wire_count C)) (sym form.0) (row_apart C c.args.candidate.now.allowed _ below)),
      form.1,
    )

pub overflow_add-k-then-form_holds : goal.overflow_add-k-then-form_holds
overflow_add-k-then-form_holds c =
    omega (arith, c.rows.invariant.within, most_rows_lem c.args.candidate.now.circuit c.args.candidate.now.allowed)

pub rows-smaller-then-form_holds : goal.rows-smaller-then-form_holds
rows-smaller-then-form_holds c =
    omega (arith, row_below c.rows.invariant c.if-k-end.false c.row_count-end.ensures.0)

pub rows-preserved-then-form_holds : goal.rows-preserved-then-form_holds
unfolding row_at
rows-preserved-then-form_holds c =
    let inv = c.rows.invariant in
    let bytes = c.args.candidate.now.assignment.now in
    let below = row_below inv c.if-k-end.false c.row_count-end.ensures.0 in
    record {
      within = omega (arith, below);
      lower =
          inv.lower
          ∙ lowest-holds _ _ _ _ below
          (subst (λ (f : Form). Satisfied (entry bytes) (row_of f)) c.form_at-form.ensures.0 (c.form_holds.ensures c.if-form_holds.true));
    }

pub loop-t-init : goal.loop-t-init
loop-t-init c = (omega arith, sums_none _ _)

pub part_product-requires : goal.part_product-requires
part_product-requires c =
    let below = residues _ _ _ c.loop-t.invariant.1 in
    (below.0, below.1)

pub add_term-sums-requires : goal.add_term-sums-requires
add_term-sums-requires c =
    let below = residues _ _ _ c.loop-t.invariant.1 in
    (below.0, below.1, below.2, rw c.term_value.ensures (mod-lt _ (lit< tt)))

pub overflow_add-k-in-rows : goal.overflow_add-k-in-rows
overflow_add-k-in-rows c =
    omega (arith, c.rows.invariant.within, most_rows_lem c.args.candidate.now.circuit c.args.candidate.now.allowed)

pub rows-smaller : goal.rows-smaller
rows-smaller c =
    omega (arith, row_below c.rows.invariant c.if-k-end.false c.row_count-end.ensures.0)

pub returns-then-k-end : goal.returns-then-k-end
returns-then-k-end c =
    sym (c.rows.invariant.lower ∙ lowest_end _ _ _ _ (c.if-k-end.true ∙ c.row_count-end.ensures.0))

pub fill-requires : goal.fill-requires
fill-requires c = c.form_at-form.ensures.1

pub overflow_add-count : goal.overflow_add-count
overflow_add-count c = omega (arith, few c.form_at-form.result c.form_at-form.result _ c.form_at-form.ensures.2 c.fill.ensures _ c.counts-counts.ensures)

pub overflow_add-count-in-rows : goal.overflow_add-count-in-rows
overflow_add-count-in-rows c = omega (arith, few c.form_at-form.result c.form_at-form.result _ c.form_at-form.ensures.2 c.fill.ensures _ c.counts-counts.ensures)

pub overflow_add-t : goal.overflow_add-t
overflow_add-t c =
    omega (
      arith,
      c.loop-t.invariant.0,
      c.if-t-count.false,
      few c.form_at-form.result c.form_at-form.result _ c.form_at-form.ensures.2 c.fill.ensures _ c.counts-counts.ensures,
    )

pub term-requires : goal.term-requires
term-requires c =
    term_inside _ _ _ (filled_as _ _ _ c.form_at-form.ensures.0 c.fill.ensures) _ c.counts-counts.ensures _
    (omega (arith, c.loop-t.invariant.0, c.if-t-count.false))

pub term_value-requires : goal.term_value-requires
term_value-requires c =
    let inside = term_within _ _ _ (filled_as _ _ _ c.form_at-form.ensures.0 c.fill.ensures) _ c.counts-counts.ensures _
    (omega (arith, c.loop-t.invariant.0, c.if-t-count.false)) _ c.term.ensures c.args.candidate.now.allowed
    (row_below c.rows.invariant c.if-k-end.false c.row_count-end.ensures.0) in
    (omega (arith, inside.0, c.args.candidate.now.whole), inside.1, c.args.candidate.now.below)

pub loop-t-preserved : goal.loop-t-preserved
loop-t-preserved c = (
  omega (arith, c.loop-t.invariant.0, c.if-t-count.false),
  term_added _ _ _ (filled_as _ _ _ c.form_at-form.ensures.0 c.fill.ensures) _ c.counts-counts.ensures _
      (omega (arith, c.loop-t.invariant.0, c.if-t-count.false)) _ c.term.ensures _ _ _ _ c.loop-t.invariant.1 c.term_value.ensures
      c.add_term-sums.ensures,
)

pub rows-preserved : goal.rows-preserved
rows-preserved c =
    let inv = c.rows.invariant in
    let below = row_below inv c.if-k-end.false c.row_count-end.ensures.0 in
    let row = row_judged _ _ _ (filled_as _ _ _ c.form_at-form.ensures.0 c.fill.ensures) _ _ _ _ c.counts-counts.ensures c.loop-t.invariant.1 c.if-t-count.true in
    record {
      within = omega (arith, below);
      lower =
          inv.lower
          ∙ lowest-holds _ _ _ _ below (sym row ∙ eq-eqb _ _ (sym c.part_product.ensures ∙ c.if-part_product-sums.false));
    }

pub returns-then-part_product-sums : goal.returns-then-part_product-sums
returns-then-part_product-sums c =
    let inv = c.rows.invariant in
    let row = row_judged _ _ _ (filled_as _ _ _ c.form_at-form.ensures.0 c.fill.ensures) _ _ _ _ c.counts-counts.ensures c.loop-t.invariant.1 c.if-t-count.true in
    sym
    (inv.lower
    ∙ lowest_fails _ _ _ _ (row_below inv c.if-k-end.false c.row_count-end.ensures.0)
    (sym row ∙ ne_eqb _ _ (λ e. c.if-part_product-sums.true (c.part_product.ensures ∙ e))))
