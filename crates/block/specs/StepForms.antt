-- The forms of a block's rows, with the wires that they join (document 01, "Rows" and "SM3 as used").
-- F is the first wire of a block, v where the words stand that it begins with, s where A to H stand before round j; l is
-- the line among a word's rows.
use Rattle.std.specs.Prelude.{cond, ℕ, ◌+◌, ◌-◌, ltb}
use Rattle.block.specs.Wires.{StatePosition, ff_first, gg_first, p0_first, p1_first, q_first, result_first, ss2_first, stands, tt1_first, tt2_first, u_first, w_first, w_prime_first, state_word}
use Rattle.forms.specs.Positions.{standing, rotated_by}
use Rattle.forms.specs.WordForms.{choice_of, four, paired, summed, two, xor_of_two}
use Rattle.forms.specs.declared.form.Form.TheVariants.{XorOfThree, Majority}
use Rattle.forms.specs.declared.form.Form.{Form}
use Rattle.forms.specs.declared.position.WordPosition.{WordPosition}
use Rattle.sm3.specs.Sm3.{rotated_constant}

-- Expansion: Wj, q and W'j.

abbrev pub word : ℕ → ℕ → WordPosition
word F j = standing (w_first F j)

-- "q = W(j-16) xor W(j-9) xor W(j-3)<<<15"
unfoldable pub q_form : ℕ → ℕ → ℕ → Form
q_form F j = paired XorOfThree (word F (j - 16)) (word F (j - 9)) (rotated_by 15 (word F (j - 3))) (standing (q_first F j))

-- "P1(X) = X xor X<<<15 xor X<<<23", of q
unfoldable pub p1_form : ℕ → ℕ → ℕ → Form
p1_form F j =
    paired XorOfThree (standing (q_first F j)) (rotated_by 15 (standing (q_first F j))) (rotated_by 23 (standing (q_first F j)))
    (standing (p1_first F j))

-- "Wj = P1(q) xor W(j-13)<<<7 xor W(j-6)"
unfoldable pub w_form : ℕ → ℕ → ℕ → Form
w_form F j = paired XorOfThree (standing (p1_first F j)) (rotated_by 7 (word F (j - 13))) (word F (j - 6)) (word F j)

-- "W'j = Wj xor W(j+4)"
unfoldable pub w_prime_form : ℕ → ℕ → ℕ → Form
w_prime_form F j = xor_of_two (word F j) (word F (j + 4)) (standing (w_prime_first F j))

-- Round j.

-- "u = A<<<12 + E + T<<<(j mod 32)"
unfoldable pub u_form : ℕ → StatePosition → ℕ → ℕ → Form
u_form F s j = summed (two (rotated_by 12 s.a) s.e) (rotated_constant j) (u_first F j)

-- "SS1 = u<<<7": no wires of its own
abbrev pub ss1 : ℕ → ℕ → WordPosition
ss1 F j = rotated_by 7 (standing (u_first F j))

-- "SS2 = SS1 xor A<<<12"
unfoldable pub ss2_form : ℕ → StatePosition → ℕ → ℕ → Form
ss2_form F s j = xor_of_two (ss1 F j) (rotated_by 12 s.a) (standing (ss2_first F j))

-- "FF of A, B, C ..: xor of three in rounds 0 to 15; then FF is the majority"
unfoldable pub ff_form : ℕ → StatePosition → ℕ → ℕ → Form
ff_form F s j = paired (cond (ltb j 16) XorOfThree Majority) s.a s.b s.c (standing (ff_first F j))

-- "GG of E, F, G: xor of three in rounds 0 to 15; then .. GG picks F where E is 1, else G"
unfoldable pub gg_form : ℕ → StatePosition → ℕ → ℕ → Form
gg_form F s j =
    cond (ltb j 16) (paired XorOfThree s.e s.f s.g (standing (gg_first F j)))
    (choice_of s.e s.f s.g (standing (gg_first F j)))

-- "TT1 = FF + D + SS2 + W'j"
unfoldable pub tt1_form : ℕ → StatePosition → ℕ → ℕ → Form
tt1_form F s j =
    summed (four (standing (ff_first F j)) s.d (standing (ss2_first F j)) (standing (w_prime_first F j))) 0 (tt1_first F j)

-- "TT2 = GG + H + SS1 + Wj"
unfoldable pub tt2_form : ℕ → StatePosition → ℕ → ℕ → Form
tt2_form F s j = summed (four (standing (gg_first F j)) s.h (ss1 F j) (word F j)) 0 (tt2_first F j)

-- "P0(X) = X xor X<<<9 xor X<<<17", of TT2
unfoldable pub p0_form : ℕ → ℕ → ℕ → Form
p0_form F j =
    paired XorOfThree (standing (tt2_first F j)) (rotated_by 9 (standing (tt2_first F j))) (rotated_by 17 (standing (tt2_first F j)))
    (standing (p0_first F j))

-- "The block's result is A to H xor the words it began with": word k
unfoldable pub result_form : ℕ → StatePosition → ℕ → ℕ → Form
result_form F v k = xor_of_two (state_word (stands F v 64) k) (state_word v k) (standing (result_first F k))
