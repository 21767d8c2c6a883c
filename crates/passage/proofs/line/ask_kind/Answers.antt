-- The places before k may have their bytes, each of which is asked what the kind asks. The first that may not is the one that is named.
use mathlib.Core.Bool.{Bool}
use mathlib.Core.List.{List}
use mathlib.Core.Path.{◌≡◌, ◌∙◌, ap, sym}
use Prim.Native.Nat.{ℕ, ◌-◌}
use native.Mathlib.Omega.{arith}
use lib.ListN.{get_or}
use Rattle.passage.proofs.Asked.{asked_none, asked_wrong, passed_more}
use Rattle.passage.specs.Format.{allows, fits}
use Rattle.passage.specs.declared.format.Kind.{Kind}
use Rattle.passage.proofs.line.ask_kind.Goals as goal

-- what the byte at a place and the one before it are asked
place_asked : (kind : Kind) (s : List ℕ) (k j : ℕ) {answer : Bool} → answer ≡ allows kind (get_or s j 0) (get_or s k 0) → j ≡ k - 1
    → fits kind s k ≡ answer
place_asked kind s k j e before = sym (e ∙ ap (λ i. allows kind (get_or s i 0) (get_or s k 0)) before)

pub loop-k-init : goal.loop-k-init
loop-k-init c = λ i low high. absurd (omega arith)

pub returns-then-not-allows : goal.returns-then-not-allows
returns-then-not-allows c =
    let s = c.args.s.now in
    let k = c.loop-k.k in
    sym
    (asked_wrong (fits c.args.kind s) c.args.places.first c.args.places.many k c.loop-k.invariant (omega arith) c.loop-k-test.true
    (place_asked c.args.kind s k _ c.allows.ensures c.saturating_sub.ensures ∙ c.if-not-allows.true))

pub loop-k-preserved : goal.loop-k-preserved
loop-k-preserved c =
    let s = c.args.s.now in
    let k = c.loop-k.k in
    passed_more (fits c.args.kind s) c.args.places.first k c.loop-k.invariant
    (place_asked c.args.kind s k _ c.allows.ensures c.saturating_sub.ensures ∙ c.if-not-allows.false)

pub returns : goal.returns
returns c = sym (asked_none (fits c.args.kind c.args.s.now) c.args.places.first c.args.places.many (λ i low high. c.loop-k.invariant i low (omega arith)))
