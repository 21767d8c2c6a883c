-- Digits and bytes are each other's: the digits of the bytes that were read are the digits that stand there, byte after byte,
-- and two lists of bytes with the same digits are the same, so bytes are read back from their digits.
use mathlib.Core.Bool.{true}
use mathlib.Core.List.{List, [], ◌∷◌, ◌++◌, append_assoc}
use mathlib.Core.Path.{◌≡◌, refl, sym, ap, ap₂, ◌∙◌}
use Prim.Native.Nat.{ℕ, zero, suc, ◌+◌, ◌-◌, ◌*◌, ◌/◌, ◌%◌, ◌<◌}
use native.Mathlib.Omega.{arith}
use lib.ListN.{drop, get_or, length, take, length-drop}
use lib.Seq.{get_or-drop, get_or-take, take-suc}
use Rattle.encoding.proofs.ByteBits.{tab_bytes}
use Rattle.encoding.proofs.Tab.{length-tab}
use Rattle.encoding.specs.Bytes.{Bytes}
use Rattle.encoding.specs.Sequence.{tab}
use Rattle.text.specs.Hex.{all_hex, bytes_of_hex, hex, hex_digit, hex_value, is_hex}
use Rattle.text.proofs.HexDigits.{all_hex_each, digit-is_hex, digit-same, hex-digit, hex-within}

pub length-hex : (d : List ℕ) → length (hex d) ≡ 2 * length d
unfolding hex
length-hex [] = refl
length-hex (b ∷ d) = omega (arith, length-hex d)

hex-more : (d : List ℕ) (b : ℕ) → hex (d ++ (b ∷ [])) ≡ hex d ++ (hex_digit (b / 16) ∷ hex_digit (b % 16) ∷ [])
unfolding hex
hex-more [] b = refl
hex-more (x ∷ d) b = ap (λ (t : List ℕ). hex_digit (x / 16) ∷ hex_digit (x % 16) ∷ t) (hex-more d b)

hex-same : (d e : List ℕ) → Bytes d → Bytes e → hex d ≡ hex e → d ≡ e
unfolding hex
hex-same [] [] d-bytes e-bytes same = refl
hex-same [] (y ∷ e) d-bytes e-bytes same = absurd (omega (arith, ap length same))
hex-same (x ∷ d) [] d-bytes e-bytes same = absurd (omega (arith, ap length same))
hex-same (x ∷ d) (y ∷ e) d-bytes e-bytes same =
    let x_byte : x < 256 = d-bytes 0 in
    let y_byte : y < 256 = e-bytes 0 in
    let highs : hex_digit (x / 16) ≡ hex_digit (y / 16) = cc in
    let lows : hex_digit (x % 16) ≡ hex_digit (y % 16) = cc in
    let rest : hex d ≡ hex e = cc in
    let high : x / 16 ≡ y / 16 = digit-same (x / 16) (y / 16) (omega arith) (omega arith) highs in
    let low : x % 16 ≡ y % 16 = digit-same (x % 16) (y % 16) (omega arith) (omega arith) lows in
    let same_byte : x ≡ y = omega arith in
    ap₂ (λ (b : ℕ) (t : List ℕ). b ∷ t) same_byte (hex-same d e (λ k. d-bytes (suc k)) (λ k. e-bytes (suc k)) rest)

-- the digits of bytes are digits
hex_all : (d : List ℕ) → Bytes d → (k : ℕ) → k < 2 * length d → is_hex (get_or (hex d) k 0) ≡ true
unfolding hex
hex_all [] bytes k below = absurd (omega arith)
hex_all (b ∷ d) bytes zero below = let byte : b < 256 = bytes 0 in digit-is_hex (b / 16) (omega arith)
hex_all (b ∷ d) bytes (suc zero) below = digit-is_hex (b % 16) (omega arith)
hex_all (b ∷ d) bytes (suc (suc k)) below = hex_all d (λ j. bytes (suc j)) k (omega arith)

-- .. wherever they stand
pub hex_there :
    (n : ℕ) (s : List ℕ) (at : ℕ) (d : List ℕ)
    → length d ≡ n
    → Bytes d
    → take (2 * n) (drop at s) ≡ hex d
    → all_hex (2 * n) s at ≡ true
hex_there n s at d long bytes there =
    (all_hex_each (2 * n) s at).1 λ k l.
    let place : get_or (hex d) k 0 ≡ get_or s (at + k) 0 =
    ap (λ (t : List ℕ). get_or t k 0) (sym there) ∙ get_or-take (2 * n) (drop at s) k 0 l ∙ get_or-drop at s k 0 in
    rw place at (hex_all d bytes k (omega arith))

-- where 2 n digits stand, each of n bytes has two
pub record TwoDigits (s : List ℕ) (at : ℕ) : Type 0 where
  pub high : is_hex (get_or s at 0) ≡ true
  pub low : is_hex (get_or s (at + 1) 0) ≡ true

pub two_digits : (n : ℕ) (s : List ℕ) (at : ℕ) → all_hex (2 * n) s at ≡ true → (k : ℕ) → k < n → TwoDigits s (at + 2 * k)
two_digits n s at all k below =
    let each = (all_hex_each (2 * n) s at).0 all in
    let second : at + (2 * k + 1) ≡ at + 2 * k + 1 = omega arith in
    record { high = each (2 * k) (omega arith); low = rw second at (each (2 * k + 1) (omega arith)) }

-- the byte that two digits write
module _ (s : List ℕ) (at : ℕ) (two : TwoDigits s at) where
  abbrev byte : ℕ
  byte = 16 * hex_value (get_or s at 0) + hex_value (get_or s (at + 1) 0)

  byte_below : byte < 256
  byte_below = omega (arith, (hex-digit (get_or s at 0) two.high).value, (hex-digit (get_or s (at + 1) 0) two.low).value)

  byte-digits : hex_digit (byte / 16) ∷ hex_digit (byte % 16) ∷ [] ≡ get_or s at 0 ∷ get_or s (at + 1) 0 ∷ []
  byte-digits =
      let first = hex-digit (get_or s at 0) two.high in
      let second = hex-digit (get_or s (at + 1) 0) two.low in
      let high : byte / 16 ≡ hex_value (get_or s at 0) = omega (arith, second.value) in
      let low : byte % 16 ≡ hex_value (get_or s (at + 1) 0) = omega (arith, second.value) in
      ap₂ (λ (x y : ℕ). x ∷ y ∷ []) (ap hex_digit high ∙ first.is) (ap hex_digit low ∙ second.is)

-- two bytes more
take-two : (s : List ℕ) (at j : ℕ) → at + j + 1 < length s
    → take (suc (suc j)) (drop at s) ≡ take j (drop at s) ++ (get_or s (at + j) 0 ∷ get_or s (at + j + 1) 0 ∷ [])
take-two s at j within =
    let left : length (drop at s) ≡ length s - at = length-drop at s in
    let place : at + suc j ≡ at + j + 1 = omega arith in
    take-suc (drop at s) (suc j) 0 (omega arith)
    ∙ ap (λ (t : List ℕ). t ++ (get_or (drop at s) (suc j) 0 ∷ [])) (take-suc (drop at s) j 0 (omega arith))
    ∙ append_assoc (take j (drop at s)) (get_or (drop at s) j 0 ∷ []) (get_or (drop at s) (suc j) 0 ∷ [])
    ∙ ap₂ (λ (x y : ℕ). take j (drop at s) ++ (x ∷ y ∷ []))
    (get_or-drop at s j 0)
    (get_or-drop at s (suc j) 0 ∙ ap (λ (k : ℕ). get_or s k 0) place)

bytes_digits :
    (n : ℕ) (s : List ℕ) (at : ℕ)
    → ((k : ℕ) → k < n → TwoDigits s (at + 2 * k))
    → hex (bytes_of_hex n s at) ≡ take (2 * n) (drop at s)
unfolding bytes_of_hex hex tab
bytes_digits zero s at two = refl
bytes_digits (suc n) s at two =
    let last = two n (omega arith) in
    let count : suc (suc (2 * n)) ≡ 2 * suc n = omega arith in
    hex-more (bytes_of_hex n s at) (byte s (at + 2 * n) last)
    ∙ ap₂ (λ (t u : List ℕ). t ++ u) (bytes_digits n s at (λ k l. two k (omega arith))) (byte-digits s (at + 2 * n) last)
    ∙ sym (take-two s at (2 * n) (hex-within s (at + 2 * n + 1) last.low))
    ∙ ap (λ (j : ℕ). take j (drop at s)) count

module _ (n : ℕ) (s : List ℕ) (at : ℕ) where
  pub length-bytes_of-hex : length (bytes_of_hex n s at) ≡ n
  unfolding bytes_of_hex
  length-bytes_of-hex = length-tab n _

  module _ (all : all_hex (2 * n) s at ≡ true) where
    pub bytes_of-hex_bytes : Bytes (bytes_of_hex n s at)
    unfolding bytes_of_hex
    bytes_of-hex_bytes = tab_bytes n _ (λ k below. byte_below s (at + 2 * k) (two_digits n s at all k below))

    -- the digits of what was read are the digits that stand there
    pub hex_of_bytes : hex (bytes_of_hex n s at) ≡ take (2 * n) (drop at s)
    hex_of_bytes = bytes_digits n s at (two_digits n s at all)

-- bytes are read back from their digits, wherever these stand
pub bytes_of-hex :
    (n : ℕ) (s : List ℕ) (at : ℕ) (d : List ℕ)
    → length d ≡ n
    → Bytes d
    → take (2 * n) (drop at s) ≡ hex d
    → bytes_of_hex n s at ≡ d
bytes_of-hex n s at d long bytes there =
    let all = hex_there n s at d long bytes there in
    hex-same (bytes_of_hex n s at) d (bytes_of-hex_bytes n s at all) bytes (hex_of_bytes n s at all ∙ there)
