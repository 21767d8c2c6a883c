-- "A passage is one line of 63 bytes .." (document 02, request 3): a line is read exactly when it has the paper's form, which is said here
-- field by field, of raw bytes and apart from the definitions that the contracts cite.
use Rattle.std.specs.Prelude.{Bool, true, List, ◌↔◌, ◌≡◌, ℕ, ◌+◌, ◌<◌, ◌≤◌, get_or, length, Ok}
use Rattle.passage.specs.Format.{is_plate_byte, number_from}
use Rattle.passage.specs.Read.{read_answer}
use Rattle.passage.specs.declared.numbers.Numbers.{Numbers}
use Rattle.text.specs.Decimal.{is_digit}
use Rattle.text.specs.Hex.{is_hex}
use Rattle.text.specs.Text.{comma, hyphen}

-- each of the n bytes of s from place `at` on passes the test
abbrev pub Every : (ℕ → Bool) → List ℕ → ℕ → ℕ → Type 0
Every test s at n = (i : ℕ) → i < n → test (get_or s (at + i) 0) ≡ true

-- "plate (10 places, A to Z and 0 to 9, filled up with `-`: the first place allows no `-`, and after a `-` only `-` is allowed)": the first m
-- places, at least one, have letters and digits, and the others have `-`
pub record PlateForm (s : List ℕ) (at : ℕ) : Type 0 where
  pub m : ℕ
  pub some : 1 ≤ m
  pub most : m ≤ 10
  pub letters : Every is_plate_byte s at m
  pub filled : (i : ℕ) → m ≤ i → i < 10 → get_or s (at + i) 0 ≡ hyphen

pub record PassageLine (s : List ℕ) : Type 0 where
  -- "one line of 63 bytes"
  pub size : length s ≡ 63
  -- "lane (3 digits, from 001)"
  pub lane-digits : Every is_digit s 0 3
  pub lane-from_1 : 1 ≤ number_from s 0 3
  -- "time (10 digits, ..)"
  pub time-digits : Every is_digit s 4 10
  -- "class (1 to 9)"
  pub class-digit : Every is_digit s 15 1
  pub class-from_1 : 1 ≤ number_from s 15 1
  -- "axles (2 digits, from 02)"
  pub axles-digits : Every is_digit s 17 2
  pub axles-from_2 : 2 ≤ number_from s 17 2
  pub plate-form : PlateForm s 20
  -- "blind (32 lower-case hexadecimal digits)"
  pub blind-digits : Every is_hex s 31 32
  -- "parted by commas"
  pub comma_3 : get_or s 3 0 ≡ comma
  pub comma_14 : get_or s 14 0 ≡ comma
  pub comma_16 : get_or s 16 0 ≡ comma
  pub comma_19 : get_or s 19 0 ≡ comma
  pub comma_30 : get_or s 30 0 ≡ comma

-- a line is read exactly when it has this form
abbrev pub ReadExactly : Type 0
ReadExactly = (s : List ℕ) → (((n : Numbers) × (read_answer s ≡ Ok n)) ↔ PassageLine s)
