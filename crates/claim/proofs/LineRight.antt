-- Refusal 1 of the program `packed`. The line is read exactly if it is the writing of a length below 1,000,000,000 and of a
-- digest: the field is, and behind it stand the digits of the digest, the line feed and any bytes.
use mathlib.Core.Bool.{Bool, cond, false, true, ◌&&◌, and-eq-true_iff}
use mathlib.Core.List.{List, [], ◌∷◌, ◌++◌, append_assoc}
use mathlib.Core.Logic.{◌↔◌}
use mathlib.Core.Path.{◌≡◌, refl, subst, sym, ap, ap₂, ◌∙◌}
use Prim.Native.Nat.{ℕ, suc, ◌+◌, ◌≤◌, ◌<◌}
use native.Mathlib.Omega.{arith}
use borrow.Author.Tests.{eq-eqb, eqb-true}
use lib.Dec.{eqb}
use lib.ListN.{drop, get_or, length, take, length-append}
use lib.Seq.{drop-append-add, drop_at, get_or-append-add, get_or_at, split_at, take_at, append_snoc}
use Rattle.encoding.specs.Bytes.{Bytes}
use Rattle.text.proofs.AfterField.{goes_on, past}
use Rattle.text.proofs.FieldRight.{Begins}
use Rattle.text.proofs.HexDigits.{byte-within}
use Rattle.text.proofs.HexRight.{bytes_of-hex, bytes_of-hex_bytes, hex_of_bytes, hex_there, length-bytes_of-hex, length-hex}
use Rattle.text.specs.Decimal.{field}
use Rattle.text.specs.Hex.{all_hex, hex}
use Rattle.text.specs.Text.{comma, line_feed}
use Rattle.std.proofs.lemmas.Option.{none-some, same_Some}
use Rattle.std.specs.Prelude.{None, Option, Some}
use Rattle.claim.specs.Line.{Reads, Right, claim, digest_at, line, packed_from, parse_of}
use Rattle.claim.specs.declared.line.Parsed.{Parsed}

never : {l at : ℕ} → None ≡ claim l at → ⊥
never e = none-some _ e

-- bytes in three pieces, h, the byte c and p, behind others: what stands where
module _ (f h p : List ℕ) (c n : ℕ) (long : length h ≡ n) where
  abbrev pieces : List ℕ
  pieces = f ++ (h ++ (c ∷ p))

  first_piece : take n (drop (length f) pieces) ≡ h
  first_piece = ap (take n) (drop_at f (h ++ (c ∷ p)) (length f) refl) ∙ take_at h (c ∷ p) n long

  second_piece : get_or pieces (length f + n) 0 ≡ c
  second_piece = get_or-append-add f (h ++ (c ∷ p)) n 0 ∙ get_or_at h c p 0 n long

  third_piece : drop (length f + suc n) pieces ≡ p
  third_piece =
      drop-append-add f (h ++ (c ∷ p)) (suc n)
      ∙ ap (drop (suc n)) (sym (append_snoc h c p))
      ∙ drop_at (h ++ (c ∷ [])) p (suc n) (omega (arith, length-append h (c ∷ [])))

-- .. and what stands there makes the three pieces
three_pieces :
    (f t : List ℕ) (n : ℕ)
    → n < length t
    → t ≡ take n (drop (length f) (f ++ t)) ++ (get_or (f ++ t) (length f + n) 0 ∷ drop (length f + suc n) (f ++ t))
three_pieces f t n within =
    split_at t n 0 within
    ∙ ap₂ (λ (x y : List ℕ). x ++ y)
    (ap (take n) (sym (drop_at f t (length f) refl)))
    (ap₂ (λ (b : ℕ) (r : List ℕ). b ∷ r) (sym (get_or-append-add f t n 0)) (sym (drop-append-add f t (suc n))))

line-pieces : (l : ℕ) (d p : List ℕ) → line l d ++ p ≡ field l comma ++ (hex d ++ (line_feed ∷ p))
unfolding line
line-pieces l d p = simp append_assoc

-- a right input is read
module _ (l : ℕ) (d p : List ℕ) (below : l < 1000000000) (size : length d ≡ 32) (bytes : Bytes d) where
  abbrev place : ℕ
  place = length (field l comma)

  abbrev input : List ℕ
  input = field l comma ++ (hex d ++ (line_feed ∷ p))

  long : length (hex d) ≡ 64
  long = omega (arith, length-hex d)

  there : take 64 (drop place input) ≡ hex d
  there = first_piece (field l comma) (hex d) p line_feed 64 long

  feed_there : get_or input (place + 64) 0 ≡ line_feed
  feed_there = second_piece (field l comma) (hex d) p line_feed 64 long

  reads_pieces : Reads input l place d p
  unfolding parse_of
  reads_pieces = (
    goes_on None comma _ (omega arith) l below (hex d ++ (line_feed ∷ p))
        ∙ simp (hex_there 32 input place d size bytes there, eq-eqb _ _ feed_there),
    bytes_of-hex 32 input place d size bytes there,
    third_piece (field l comma) (hex d) p line_feed 64 long,
  )

reads_right : (s : List ℕ) (l : ℕ) (d p : List ℕ) → Right s l d p → Reads s l (length (field l comma)) d p
reads_right s l d p right =
    subst (λ (t : List ℕ). Reads t l (length (field l comma)) d p) (sym (right.3 ∙ line-pieces l d p))
    (reads_pieces l d p right.0 right.1 right.2)

-- what a claim that is read shows
pub record Claimed (s : List ℕ) (l at : ℕ) : Type 0 where
  pub below : l < 1000000000
  pub place : at ≡ length (field l comma)
  rest : List ℕ
  is : s ≡ field l comma ++ rest
  pub digits : all_hex 64 s at ≡ true
  feed : get_or s (at + 64) 0 ≡ line_feed
  pub within : at + 65 ≤ length s

pub claimed : (s : List ℕ) (l at : ℕ) → parse_of s ≡ claim l at → Claimed s l at
unfolding parse_of
claimed s l at e =
    let read = past None comma _ s (claim l at) never e in
    by read.v read.m read.begins (all_hex 64 s read.m && eqb (get_or s (read.m + 64) 0) line_feed) refl read.on
  where
    by :
        (v m : ℕ)
        → Begins comma s v m
        → (b : Bool)
        → (all_hex 64 s m && eqb (get_or s (m + 64) 0) line_feed) ≡ b
        → cond b (claim v m) None ≡ claim l at
        → Claimed s l at
    by v m begins true told e =
        let both = (and-eq-true_iff (all_hex 64 s m) (eqb (get_or s (m + 64) 0) line_feed)).0 told in
        let feed = eqb-true (get_or s (m + 64) 0) line_feed both.1 in
        let last = byte-within s (m + 64) (omega (arith, feed)) in
        let read = same_Some _ _ e in
        let v_l : v ≡ l = ap (λ (c : Parsed). c.bits) read in
        let m_at : m ≡ at = ap (λ (c : Parsed). c.digest) read in
        subst (λ (x : ℕ). Claimed s x at) v_l
        (subst (Claimed s v) m_at
        (record {
          below = begins.below;
          place = begins.bytes;
          rest = begins.rest;
          is = begins.is;
          digits = both.0;
          feed = feed;
          within = omega arith;
        }))
    by v m begins false told e = absurd (never e)

pub claim_right : (s : List ℕ) (l at : ℕ) → Claimed s l at → Right s l (digest_at s at) (packed_from s at)
claim_right s l at c = (
  c.below,
  length-bytes_of-hex 32 s at,
  bytes_of-hex_bytes 32 s at c.digits,
  c.is
      ∙ ap (λ (t : List ℕ). field l comma ++ t) rest
      ∙ sym (line-pieces l (digest_at s at) (packed_from s at)),
)
  where
    within : 64 < length c.rest
    within =
        omega (arith, c.within, ap length c.is, length-append (field l comma) c.rest, c.place)

    rest : c.rest ≡ hex (digest_at s at) ++ (line_feed ∷ packed_from s at)
    rest =
        three_pieces (field l comma) c.rest 64 within
        ∙ ap₂ (λ (t : List ℕ) (k : ℕ). take 64 (drop k t) ++ (get_or t (k + 64) 0 ∷ drop (k + 65) t)) (sym c.is) (sym c.place)
        ∙ ap₂ (λ (h : List ℕ) (b : ℕ). h ++ (b ∷ packed_from s at)) (sym (hex_of_bytes 32 s at c.digits)) c.feed

pub parse_right :
    (s : List ℕ) (l at : ℕ) (d p : List ℕ)
    → Reads s l at d p ↔ (Right s l d p × (at ≡ length (field l comma)))
parse_right s l at d p = (
  λ read.
      let c = claimed s l at read.0 in
      (rw (read.1, read.2) at (claim_right s l at c), c.place),
  λ given. subst (λ (k : ℕ). Reads s l k d p) (sym given.1) (reads_right s l d p given.0),
)

-- .. and is refused otherwise
pub parse_wrong : (s : List ℕ) → (parse_of s ≡ None) ↔ ((l : ℕ) (d p : List ℕ) → Right s l d p → ⊥)
parse_wrong s = (
  λ bad l d p right. never (sym bad ∙ (reads_right s l d p right).0),
  by (parse_of s) refl,
)
  where
    by : (r : Option Parsed) → parse_of s ≡ r → ((l : ℕ) (d p : List ℕ) → Right s l d p → ⊥) → parse_of s ≡ None
    by (Some c) read none =
        absurd
        (none c.bits (digest_at s c.digest) (packed_from s c.digest)
        (claim_right s c.bits c.digest (claimed s c.bits c.digest read)))
    by None read none = read
