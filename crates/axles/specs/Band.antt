-- Which records lie in a band (document 02, request 5): "both bytes are digits and the axles lie within the bounds, ends included".
use Rattle.std.specs.Prelude.{Bool, ◌&&◌, List, ℕ, ◌+◌, ◌-◌, ◌*◌, ◌≤◌, leb, get_or}
use Rattle.text.specs.Decimal.{is_digit}

-- "axles (2 digits ..)": bytes 17 and 18 of a passage's line, the tens first
abbrev pub tens_place : ℕ
tens_place = 17

abbrev pub units_place : ℕ
units_place = 18

-- a digit's byte, `0` to `9`, and its value
abbrev pub IsDigit : ℕ → Type 0
IsDigit b = (48 ≤ b) × (b ≤ 57)

abbrev pub axles_in : List ℕ → ℕ
axles_in bytes = 10 * (get_or bytes tens_place 0 - 48) + (get_or bytes units_place 0 - 48)

pub record InBand (lower upper : ℕ) (bytes : List ℕ) : Type 0 where
  pub tens : IsDigit (get_or bytes tens_place 0)
  pub units : IsDigit (get_or bytes units_place 0)
  pub least : lower ≤ axles_in bytes
  pub most : axles_in bytes ≤ upper

-- the test. That it says so is `band_iff` of proofs/Bands
unfoldable pub in_band : ℕ → ℕ → List ℕ → Bool
in_band lower upper bytes =
    is_digit (get_or bytes tens_place 0)
    && (is_digit (get_or bytes units_place 0)
    && (leb lower (axles_in bytes) && leb (axles_in bytes) upper))
