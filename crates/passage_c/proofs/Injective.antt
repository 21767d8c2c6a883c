-- The packing of a reading is injective: an answer can be read back from its number. The low byte tells whether it is a refusal, and each
-- number of a line has bits of its own.
use Rattle.refusal.specs.declared.outcome.Refusal.{Refusal}
use Rattle.std.specs.Prelude.{Err, Ok, Result}
use mathlib.Core.Path.{◌≡◌, ◌∙◌, ap, ap₂, refl, sym}
use Prim.Native.Nat.{ℕ, ◌+◌, ◌*◌, ◌/◌, ◌%◌, ◌^◌, ◌<◌}
use native.Mathlib.Omega.{arith}
use lib.Arith.{digits_div, digits_mod}
use Rattle.passage.specs.Front.{Fit}
use Rattle.passage.specs.declared.numbers.Numbers.{Numbers}
use Rattle.passage_c.specs.Packing.{numbers_of, packed_reading}
use Rattle.passage_c.specs.Small.{SmallReading}
use Rattle.refusal.proofs.Injective.{refusal_injective, refused}

-- a number below m, and what stands above it
parts : (m i j v : ℕ) → i < m → v ≡ j * m + i → (v / m ≡ j) × (v % m ≡ i)
parts m i j v small e = (ap (λ x. x / m) e ∙ digits_div j small, ap (λ x. x % m) e ∙ digits_mod j small)

-- the numbers by their bits: 10 from bit 8 on, 34 from bit 18 on, 4 from bit 52 on, and what stands from bit 56 on
pub numbers_back : (n : Numbers) (v : ℕ) → Fit n → v ≡ packed_reading (Ok n)
    → numbers_of (v / 2 ^ 8 % 2 ^ 10) (v / 2 ^ 18 % 2 ^ 34) (v / 2 ^ 52 % 2 ^ 4) (v / 2 ^ 56) ≡ n
numbers_back n v fit e =
    let from_class : ℕ = n.class + 2 ^ 4 * n.axles in
    let from_time : ℕ = n.time + 2 ^ 34 * from_class in
    let from_lane : ℕ = n.lane + 2 ^ 10 * from_time in
    let above_8 : v / 2 ^ 8 ≡ from_lane = (parts (2 ^ 8) 0 from_lane v (omega arith) (omega arith)).0 in
    let above_18 : v / 2 ^ 18 ≡ from_time = (parts (2 ^ 18) (2 ^ 8 * n.lane) from_time v (omega arith) (omega arith)).0 in
    let above_52 : v / 2 ^ 52 ≡ from_class = (parts (2 ^ 52) (2 ^ 8 * n.lane + 2 ^ 18 * n.time) from_class v (omega arith) (omega arith)).0 in
    let above_56 : v / 2 ^ 56 ≡ n.axles =
    (parts (2 ^ 56) (2 ^ 8 * n.lane + 2 ^ 18 * n.time + 2 ^ 52 * n.class) n.axles v (omega arith) (omega arith)).0 in
    let lane : v / 2 ^ 8 % 2 ^ 10 ≡ n.lane = ap (λ x. x % 2 ^ 10) above_8 ∙ (parts (2 ^ 10) n.lane from_time from_lane (omega arith) (omega arith)).1 in
    let time : v / 2 ^ 18 % 2 ^ 34 ≡ n.time = ap (λ x. x % 2 ^ 34) above_18 ∙ (parts (2 ^ 34) n.time from_class from_time (omega arith) (omega arith)).1 in
    let class : v / 2 ^ 52 % 2 ^ 4 ≡ n.class = ap (λ x. x % 2 ^ 4) above_52 ∙ (parts (2 ^ 4) n.class n.axles from_class (omega arith) (omega arith)).1 in
    ap₂ (λ l t. numbers_of l t (v / 2 ^ 52 % 2 ^ 4) (v / 2 ^ 56)) lane time ∙ ap₂ (numbers_of n.lane n.time) class above_56

-- the low byte of a line's numbers is 0
low_zero : (n : Numbers) → packed_reading (Ok n) % 256 ≡ 0
low_zero n = omega arith

pub reading_injective : (a b : Result Numbers Refusal) → SmallReading a → SmallReading b → packed_reading a ≡ packed_reading b → a ≡ b
reading_injective (Ok m) (Ok n) p q same =
    ap Ok (sym (numbers_back m (packed_reading (Ok m)) p refl) ∙ numbers_back n (packed_reading (Ok m)) q same)
reading_injective (Ok m) (Err r) p q same = absurd (refused r (ap (λ v. v % 256) (sym same) ∙ low_zero m))
reading_injective (Err r) (Ok m) p q same = absurd (refused r (ap (λ v. v % 256) same ∙ low_zero m))
reading_injective (Err r) (Err s) p q same = ap Err (refusal_injective r s same)
