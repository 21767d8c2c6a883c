-- Long regular sequences, as functions of the place, which counts from 0.
use Rattle.std.specs.Prelude.{cond, List, [], ◌∷◌, ◌++◌, ℕ, zero, suc, ◌-◌, ◌/◌, ◌%◌, ltb}

-- the first n places of f, then g from its place 0 on
unfoldable pub beside : {A : Type 0} → ℕ → (ℕ → A) → (ℕ → A) → ℕ → A
beside n f g k = cond (ltb k n) (f k) (g (k - n))

-- f 0, f 1, f 2, .., each with m places
unfoldable pub grid : {A : Type 0} → ℕ → (ℕ → ℕ → A) → ℕ → A
grid m f k = f (k / m) (k % m)

-- a sequence's first n places as a list
unfoldable pub tab : {A : Type 0} → ℕ → (ℕ → A) → List A
tab zero f = []
tab (suc n) f = tab n f ++ (f n ∷ [])
