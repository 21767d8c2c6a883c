-- Past the end stands no digit; within, the tests of the bytes that are asked for are those of the definition.
use mathlib.Core.List.{List}
use mathlib.Core.Path.{◌≡◌, sym, ap, ◌∙◌}
use Prim.Native.Nat.{ℕ, ◌+◌, ◌-◌}
use native.Mathlib.Omega.{arith}
use borrow.Author.Rules.{rules}
use borrow.Author.Tests.{tests}
use lib.ListN.{drop, take}
use Rattle.std.proofs.lemmas.Iterator.{YieldsList-from_slice}
use Rattle.std.proofs.lemmas.Iterator.Search.{all_from_yields_List}
use Rattle.std.specs.List.{list_all}
use Rattle.text.specs.Hex.{all_hex, is_hex}
use Rattle.text.proofs.HexDigits.{all_hex_list, all_hex_past}
use Rattle.text.proofs.hex.all_hex.Goals as goal

pub returns-then-n-eq0 : goal.returns-then-n-eq0
unfolding all_hex
returns-then-n-eq0 c = sym (ap (λ (n : ℕ). all_hex n c.args.s.now c.args.at) c.if-n-eq0.true)

pub returns-then-saturating_sub-n : goal.returns-then-saturating_sub-n
returns-then-saturating_sub-n c = sym (all_hex_past c.args.n c.args.s.now c.args.at (omega arith))

pub returns : goal.returns
returns c =
    let s = c.args.s.now in
    let at = c.args.at in
    let n = c.args.n in
    let asked : List ℕ = take (at + n - at) (drop at s) in
    let many : at + n - at ≡ n = omega arith in
    all_from_yields_List {all = asked} is_hex _ _ _ c.all.ensures.ran
    (YieldsList-from_slice asked c.iter.ensures.rest)
    (λ x b q k. search (rules, tests))
    ∙ ap (λ (k : ℕ). list_all is_hex (take k (drop at s))) many
    ∙ sym (all_hex_list n s at (omega arith))
