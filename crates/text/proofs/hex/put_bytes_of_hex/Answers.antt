-- Turn k puts byte k behind those that stand at the front.
use mathlib.Core.List.{List, [], ◌∷◌, ◌++◌}
use mathlib.Core.Path.{◌≡◌, refl, sym, ap, ap₂, ◌∙◌}
use Prim.Native.Nat.{ℕ, ◌+◌, ◌*◌}
use native.Mathlib.Numerals.{add-one}
use native.Mathlib.Omega.{arith}
use borrow.Author.Rules.{rules}
use lib.ListN.{length, set, take, length-set}
use lib.Seq.{take_all, take-suc-set}
use Rattle.encoding.specs.Sequence.{tab}
use Rattle.text.specs.Hex.{bytes_of_hex}
use Rattle.text.proofs.HexDigits.{hex-within}
use Rattle.text.proofs.HexRight.{two_digits}
use Rattle.text.proofs.hex.put_bytes_of_hex.Goals as goal

pub loop-k-init : goal.loop-k-init
unfolding bytes_of_hex tab
loop-k-init c = (search rules, refl, refl)

-- in a turn, the two digits of byte k are there
pub overflow_add-at : goal.overflow_add-at
overflow_add-at c =
    let two = two_digits (length c.args.out.now) c.args.s.now c.args.at c.requires c.loop-k.k (omega arith) in
    omega (arith, hex-within c.args.s.now (c.args.at + 2 * c.loop-k.k + 1) two.low)

pub byte_of_hex-requires : goal.byte_of_hex-requires
byte_of_hex-requires c =
    let two = two_digits (length c.args.out.now) c.args.s.now c.args.at c.requires c.loop-k.k (omega arith) in
    (two.high, two.low)

pub loop-k-preserved : goal.loop-k-preserved
unfolding bytes_of_hex tab
loop-k-preserved c =
    let loop = c.loop-k in (
      search rules,
      simp length-set loop.invariant.1,
      ap (λ (j : ℕ). take j (set loop.out loop.k c.byte_of_hex.result)) (add-one loop.k)
          ∙ take-suc-set loop.out loop.k c.byte_of_hex.result (omega arith)
          ∙ ap₂ (λ (l : List ℕ) (b : ℕ). l ++ (b ∷ [])) loop.invariant.2 c.byte_of_hex.ensures
          ∙ ap (λ (j : ℕ). bytes_of_hex j c.args.s.now c.args.at) (sym (add-one loop.k)),
    )

pub returns : goal.returns
returns c =
    let loop = c.loop-k in
    let end : loop.k ≡ length c.args.out.now = omega arith in
    sym (take_all loop.k loop.out (omega arith))
    ∙ loop.invariant.2
    ∙ ap (λ (j : ℕ). bytes_of_hex j c.args.s.now c.args.at) end
