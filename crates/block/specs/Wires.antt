-- Where the words of a block stand: the number of each word's first wire (document 01, "Wires"). F is the first wire of the
-- block.
use Rattle.std.specs.Prelude.{cond, [], ◌∷◌, ℕ, zero, suc, ◌+◌, ◌-◌, ◌*◌, ltb, get_or}
use Rattle.forms.specs.Positions.{standing, rotated_by}
use Rattle.forms.specs.declared.position.WordPosition.{WordPosition}

-- "22,528 a block", of which 22,016 follow from its 512 bits and the words that it begins with
abbrev pub wires_per_block : ℕ
wires_per_block = 22528

abbrev pub computed_per_block : ℕ
computed_per_block = 22016

-- how many wires q, P1(q) and Wj have, and how many a round has
abbrev pub expansion_width : ℕ
expansion_width = 96

abbrev pub round_width : ℕ
round_width = 230

-- where the parts of a block begin, one after the other: its "512 block bits", then "for each j from 16 to 67: q, P1(q), Wj; W'0
-- to W'63; for each round ..; the 8 result words"
abbrev pub expansion_at : ℕ
expansion_at = 512

abbrev pub w_primes_at : ℕ
w_primes_at = expansion_at + 52 * expansion_width

abbrev pub rounds_at : ℕ
rounds_at = w_primes_at + 64 * 32

abbrev pub result_at : ℕ
result_at = rounds_at + 64 * round_width

-- q, P1(q) and Wj
abbrev pub q_first : ℕ → ℕ → ℕ
q_first F j = F + expansion_at + expansion_width * (j - 16)

abbrev pub p1_first : ℕ → ℕ → ℕ
p1_first F j = q_first F j + 32

abbrev pub w_first : ℕ → ℕ → ℕ
w_first F j = cond (ltb j 16) (F + 32 * j) (q_first F j + 64)

-- "W'0 to W'63"
abbrev pub w_prime_first : ℕ → ℕ → ℕ
w_prime_first F j = F + w_primes_at + 32 * j

-- "for each round: u and its 2 carries, SS2, FF, GG, TT1 and 2 carries, TT2 and 2 carries, P0(TT2)": where each begins
abbrev pub ss2_at : ℕ
ss2_at = 34

abbrev pub ff_at : ℕ
ff_at = 66

abbrev pub gg_at : ℕ
gg_at = 98

abbrev pub tt1_at : ℕ
tt1_at = 130

abbrev pub tt2_at : ℕ
tt2_at = 164

abbrev pub p0_at : ℕ
p0_at = 198

abbrev pub u_first : ℕ → ℕ → ℕ
u_first F j = F + rounds_at + round_width * j

abbrev pub ss2_first : ℕ → ℕ → ℕ
ss2_first F j = u_first F j + ss2_at

abbrev pub ff_first : ℕ → ℕ → ℕ
ff_first F j = u_first F j + ff_at

abbrev pub gg_first : ℕ → ℕ → ℕ
gg_first F j = u_first F j + gg_at

abbrev pub tt1_first : ℕ → ℕ → ℕ
tt1_first F j = u_first F j + tt1_at

abbrev pub tt2_first : ℕ → ℕ → ℕ
tt2_first F j = u_first F j + tt2_at

abbrev pub p0_first : ℕ → ℕ → ℕ
p0_first F j = u_first F j + p0_at

-- "the 8 result words"
abbrev pub result_first : ℕ → ℕ → ℕ
result_first F k = F + result_at + 32 * k

-- Where A to H stand.
pub record StatePosition : Type 0 where
  pub a : WordPosition
  pub b : WordPosition
  pub c : WordPosition
  pub d : WordPosition
  pub e : WordPosition
  pub f : WordPosition
  pub g : WordPosition
  pub h : WordPosition

-- word k of them
abbrev pub state_word : StatePosition → ℕ → WordPosition
state_word s k = get_or (s.a ∷ s.b ∷ s.c ∷ s.d ∷ s.e ∷ s.f ∷ s.g ∷ s.h ∷ []) k s.a

-- the eight words that stand one after the other from wire w on
unfoldable pub eight_from : ℕ → StatePosition
eight_from w =
    record {
      a = standing w;
      b = standing (w + 32);
      c = standing (w + 64);
      d = standing (w + 96);
      e = standing (w + 128);
      f = standing (w + 160);
      g = standing (w + 192);
      h = standing (w + 224);
    }

-- after round j of the block whose first wire is F: "Then D = C, C = B<<<9, B = A, A = TT1, H = G, G = F<<<19, F = E,
-- E = P0(TT2)"
unfoldable pub moved : ℕ → ℕ → StatePosition → StatePosition
moved F j s =
    record {
      a = standing (tt1_first F j);
      b = s.a;
      c = rotated_by 9 s.b;
      d = s.c;
      e = standing (p0_first F j);
      f = s.e;
      g = rotated_by 19 s.f;
      h = s.g;
    }

-- before round j of a block that begins with the words at v
unfoldable pub stands : ℕ → StatePosition → ℕ → StatePosition
stands F v zero = v
stands F v (suc j) = moved F j (stands F v j)
