-- What 16 is in writing, in the paper's words: which value of a field its places allow (document 02, request 3: "16, a byte, or in writing
-- a field's value, that its place does not allow (.. in writing, a number too great for its digits, or class 0, gives its field's first
-- byte)"). Said of the line that `write_answer` asks about.
use Rattle.std.specs.Prelude.{true, ◌&&◌, List, ◌≡◌, ℕ, ◌+◌, ◌-◌, ◌<◌, ◌^◌, ltb, get_or, length}
use Rattle.passage.specs.Format.{allowed_at, allows, axles, blind, class, kind_at, lane, plate, time}
use Rattle.passage.specs.Write.{line_of}
use Rattle.passage.specs.declared.numbers.Numbers.{Numbers}
use Rattle.text.specs.Hex.{is_hex}

pub record Values : Type 0 where
  -- a field's first place allows a number that is not too great for its digits, and of the class one that is not 0
  pub of_lane : (n : Numbers) (p b : List ℕ) → allowed_at (line_of n p b) lane.first ≡ ltb n.lane (10 ^ lane.many)
  pub of_time : (n : Numbers) (p b : List ℕ) → allowed_at (line_of n p b) time.first ≡ ltb n.time (10 ^ time.many)
  pub of_class : (n : Numbers) (p b : List ℕ)
      → allowed_at (line_of n p b) class.first ≡ (ltb 0 n.class && ltb n.class (10 ^ class.many))
  pub of_axles : (n : Numbers) (p b : List ℕ) → allowed_at (line_of n p b) axles.first ≡ ltb n.axles (10 ^ axles.many)
  -- no other place before the plate, and no comma, is ever wrong
  pub behind : (n : Numbers) (p b : List ℕ) (k : ℕ) → k < plate.first → (k ≡ lane.first → ⊥) → (k ≡ time.first → ⊥)
      → (k ≡ class.first → ⊥) → (k ≡ axles.first → ⊥) → allowed_at (line_of n p b) k ≡ true
  pub of_comma : (n : Numbers) (p b : List ℕ) → length p ≡ plate.many → allowed_at (line_of n p b) (plate.first + plate.many) ≡ true
  -- plate and blind are asked byte by byte, as in a line
  pub of_plate : (n : Numbers) (p b : List ℕ) → length p ≡ plate.many → (i : ℕ) → i < plate.many
      → allowed_at (line_of n p b) (plate.first + i) ≡ allows (kind_at (plate.first + i)) (get_or p (i - 1) 0) (get_or p i 0)
  pub of_blind : (n : Numbers) (p b : List ℕ) → length p ≡ plate.many → (i : ℕ) → i < blind.many
      → allowed_at (line_of n p b) (blind.first + i) ≡ is_hex (get_or b i 0)
