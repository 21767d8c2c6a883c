-- The front of an input tells as much of its line as all of it: a right line has at most 75 bytes, and nothing is asked of what
-- follows it.
use mathlib.Core.List.{List, [], ◌∷◌, ◌++◌, append_assoc}
use mathlib.Core.Path.{◌≡◌, refl, sym, ap, ap₂, ◌∙◌}
use Prim.Native.Nat.{ℕ, ◌+◌, ◌-◌, ◌≤◌, ◌<◌}
use native.Mathlib.Omega.{arith}
use lib.ListN.{drop, length, take, length-append, take-append-drop}
use lib.Seq.{take-append-add}
use Rattle.text.proofs.AfterField.{length-field}
use Rattle.text.proofs.HexRight.{length-hex}
use Rattle.text.specs.Decimal.{field}
use Rattle.text.specs.Hex.{hex}
use Rattle.text.specs.Text.{comma, line_feed}
use Rattle.std.specs.Prelude.{None, Option, Some}
use Rattle.claim.specs.Line.{Right, claim, digest_at, line, parse_of}
use Rattle.claim.specs.declared.line.Parsed.{Parsed}
use Rattle.claim.proofs.LineRight.{claim_right, claimed, parse_right, parse_wrong}

pub length-line : (l : ℕ) (d : List ℕ) → l < 1000000000 → length d ≡ 32 → length (line l d) ≤ 75
unfolding line
length-line l d below size =
    omega (
      arith,
      length-append (field l comma ++ hex d) (line_feed ∷ []),
      length-append (field l comma) (hex d),
      length-field l comma below,
      length-hex d,
    )

module _ (m : ℕ) (s : List ℕ) where
  right_front :
      (l : ℕ) (d p : List ℕ)
      → 75 ≤ m
      → Right s l d p
      → Right (take m s) l d (take (m - length (line l d)) p)
  right_front l d p enough right =
      let count : m ≡ length (line l d) + (m - length (line l d)) = omega (arith, length-line l d right.0 right.1) in (
        right.0,
        right.1,
        right.2,
        ap₂ (λ (k : ℕ) (t : List ℕ). take k t) count right.3 ∙ take-append-add (line l d) p (m - length (line l d)),
      )

  right_whole : (l : ℕ) (d p : List ℕ) → Right (take m s) l d p → Right s l d (p ++ drop m s)
  right_whole l d p right = (
    right.0,
    right.1,
    right.2,
    sym (take-append-drop m s)
        ∙ ap (λ (t : List ℕ). t ++ drop m s) right.3
        ∙ append_assoc (line l d) p (drop m s),
  )

  module _ (enough : 75 ≤ m) where
    claim_front : (l at : ℕ) → parse_of s ≡ claim l at → (parse_of (take m s) ≡ claim l at) × (digest_at (take m s) at ≡ digest_at s at)
    claim_front l at read =
        let c = claimed s l at read in
        let front = right_front l _ _ enough (claim_right s l at c) in
        let reads = (parse_right (take m s) l at (digest_at s at) _).1 (front, c.place) in
        (reads.0, reads.1)

    pub parse-front : parse_of (take m s) ≡ parse_of s
    parse-front = by (parse_of s) refl
      where
        by : (r : Option Parsed) → parse_of s ≡ r → parse_of (take m s) ≡ parse_of s
        by (Some c) read = (claim_front c.bits c.digest read).0 ∙ sym read
        by None read =
            (parse_wrong (take m s)).1 (λ l d p right. (parse_wrong s).0 read l d (p ++ drop m s) (right_whole l d p right)) ∙ sym read

    pub digest-front : (l at : ℕ) → parse_of s ≡ claim l at → digest_at (take m s) at ≡ digest_at s at
    digest-front l at read = (claim_front l at read).1
