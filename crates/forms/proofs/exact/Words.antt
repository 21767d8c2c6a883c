-- The rows of a word hold exactly where its wires have the bits of the word that the step computes. Each law is the
-- law of its row form at each of the 32 positions.
use Rattle.std.proofs.Common.{◌≡◌, ℕ, ◌+◌, ◌%◌, ◌^◌, ◌<◌, cond, eqb, ◌↔◌, [], ◌++◌, sym, ap, ◌∙◌, add-zero, arith}
use mathlib.Core.Logic.Iff
use Rattle.encoding.proofs.Sequence.{Each, each_beside, each_grid, each_iff, each_one, each_two}
use Rattle.encoding.specs.Sequence.{beside, grid}
pub use Rattle.forms.proofs.exact.Forms.{bit-row, equal_row, fixed_row}
use Rattle.forms.proofs.exact.Forms.{choice-row, majority-row, xor_three_row, xor_two_row}
use Rattle.forms.proofs.exact.Runs.{Agree, Holds, Judged, Reads, and_given}
use Rattle.forms.proofs.exact.Sums.{sum-bits, sum_row, value-words}
use Rattle.forms.proofs.exact.Values.{value-append}
use Rattle.forms.specs.Positions.{standing, rotated_by, wire_at}
use Rattle.forms.specs.Former.{former_value}
use Rattle.forms.specs.Rows.{Satisfied, addend_terms, row_of, weighted}
use Rattle.forms.specs.WordForms.{choice_of, four, paired, summed, two, xor_of_two}
use Rattle.forms.specs.WordWires.{carry_wires, sum_wires, word_wires}
use Rattle.forms.specs.declared.form.Addends.{Addends}
use Rattle.forms.specs.declared.form.Form.TheVariants.{Bit, XorOfThree, Majority, Sum}
use Rattle.forms.specs.declared.form.Form.{Form}
use Rattle.forms.specs.declared.position.WordPosition.{WordPosition}
use Rattle.refusal.specs.declared.numbers.WireNumber.{WireNumber}
use Rattle.sm3.proofs.Bits.{bit-choice, bit_lt, bit-majority, bit_xor_lem, bit_xor_3}
use Rattle.sm3.proofs.Rotation.{bit_rotate}
use Rattle.sm3.specs.Sm3.{choice, truncated, majority, ◌⊕◌}
use Rattle.sm3.specs.Words.{bit, rotate_left}

module _ (a : ℕ → ℕ) (J : Judged a) where
  pub reads_rotated : (x : WordPosition) (X k : ℕ) → X < 2 ^ 32 → k < 32 → Reads a x X → Reads a (rotated_by k x) (rotate_left k X)
  reads_rotated x X k hX hk h i l =
      let place : (i + (x.rotation + k) % 32) % 32 ≡ ((i + k) % 32 + x.rotation) % 32 = omega arith in
      ap (λ (j : ℕ). a (x.first.0 + j)) place ∙ h ((i + k) % 32) (omega arith) ∙ sym (bit_rotate k i X (omega arith) l hX)

  pub reads_standing : (w X : ℕ) → Agree a w 32 (word_wires X) → Reads a (standing w) X
  unfolding word_wires
  reads_standing w X h i l =
      let place : (i + 0) % 32 ≡ i = omega arith in
      ap (λ (j : ℕ). a (w + j)) place ∙ h i l

  pub reads_sum : (w s : ℕ) → Agree a w 34 (sum_wires s) → Reads a (standing w) (truncated s)
  unfolding sum_wires
  reads_sum w s h =
      reads_standing w (truncated s) ((each_beside (λ k v. a (w + k) ≡ v) 32 2 (word_wires (truncated s)) (carry_wires s)).0 h).0

  reads_bit : (x : WordPosition) (X : ℕ) → Reads a x X → (i : ℕ) → i < 32 → a (wire_at x i).0 < 2
  reads_bit x X h i l = rw (h i l) (bit_lt i X)

  -- rows that fix each wire of a word fix the word
  word_rows : (r W : ℕ) (P : ℕ → Type 0) (v : ℕ → ℕ) → ((i : ℕ) → i < 32 → (P i ↔ (a (wire_at (standing r) i).0 ≡ v i)))
      → ((i : ℕ) → i < 32 → bit i W ≡ v i) → (Each 32 P ↔ Agree a r 32 (word_wires W))
  unfolding word_wires
  word_rows r W P v h e =
      each_iff 32 P (λ i. a (r + i) ≡ word_wires W i)
      (λ i l.
      let place : r + (i + 0) % 32 ≡ r + i = omega arith in
      Iff.trans (h i l)
      (λ q. ap a (sym place) ∙ q ∙ sym (e i l), λ q. ap a place ∙ q ∙ e i l))

  -- the same where the bit row of each wire comes before its equation
  paired_rows : (equation : WireNumber → WireNumber → WireNumber → WireNumber → Form) (x y z : WordPosition) (r W : ℕ) (v : ℕ → ℕ)
      → ((i : ℕ) → i < 32 → a (wire_at (standing r) i).0 < 2
      → (Satisfied a (row_of (equation (wire_at x i) (wire_at y i) (wire_at z i) (wire_at (standing r) i)))
      ↔ (a (wire_at (standing r) i).0 ≡ v i)))
      → ((i : ℕ) → i < 32 → bit i W ≡ v i) → (Holds a 64 (paired equation x y z (standing r)) ↔ Agree a r 32 (word_wires W))
  unfolding paired grid
  paired_rows equation x y z r W v h e =
      let line : ℕ → ℕ → Form =
      λ i l.
      cond (eqb l 0) (Bit (wire_at (standing r) i))
      (equation (wire_at x i) (wire_at y i) (wire_at z i) (wire_at (standing r) i)) in
      Iff.trans (each_grid (λ k f. Satisfied a (row_of f)) 32 2 line)
      (word_rows r W _ v
      (λ i l.
      let w : ℕ = (wire_at (standing r) i).0 in
      Iff.trans (each_two (λ k. Satisfied a (row_of (line i k)))) (
        λ g. (h i l ((bit-row a J w).0 g.0)).0 g.1,
        λ q.
            let b : a w < 2 = rw (q ∙ sym (e i l)) (bit_lt i W) in
            ((bit-row a J w).1 b, (h i l b).1 q),
      ))
      e)

  -- a sum's rows
  sum_rows : (s : Addends) (c v r : ℕ) → former_value a (addend_terms s) ≡ v → v + c < 2 ^ 34
      → (Holds a 35 (summed s c r) ↔ Agree a r 34 (sum_wires (v + c)))
  unfolding summed beside
  sum_rows s c v r e h =
      Iff.trans
      (each_beside (λ k f. Satisfied a (row_of f)) 34 1 (λ l. Bit (record { 0 = r + l })) (λ l. Sum s c (record { 0 = r })))
      (Iff.trans
      (and_given
      (each_iff 34 (λ l. Satisfied a (row_of (Bit (record { 0 = r + l })))) (λ l. a (r + l) < 2) (λ l m. bit-row a J (r + l)))
      (λ bits.
      Iff.trans (each_one (λ l. Satisfied a (row_of (Sum s c (record { 0 = r }))))) (sum_row a J s c v (record { 0 = r }) e h bits)))
      (sum-bits (v + c) (λ i. a (r + i)) h))

  module _ (x y : WordPosition) (X Y : ℕ) (hX : X < 2 ^ 32) (hY : Y < 2 ^ 32) (rx : Reads a x X) (ry : Reads a y Y) where
    pub xor_two : (r : ℕ) → (Holds a 32 (xor_of_two x y (standing r)) ↔ Agree a r 32 (word_wires (X ⊕ Y)))
    unfolding xor_of_two
    xor_two r =
        word_rows r (X ⊕ Y) _ _
        (λ i l.
        xor_two_row a J (wire_at x i) (wire_at y i) (wire_at (standing r) i) (reads_bit x X rx i l) (reads_bit y Y ry i l))
        (λ i l. rw (rx i l, ry i l) (bit_xor_lem i X Y))

    pub sum-two : (c r : ℕ) → c < 2 ^ 32 → (Holds a 35 (summed (two x y) c r) ↔ Agree a r 34 (sum_wires (X + Y + c)))
    unfolding addend_terms former_value
    sum-two c r hc =
        sum_rows (two x y) c (X + Y) r
        (omega (arith, value-append a (weighted x ++ weighted y) [], value-words a x y X Y hX hY rx ry)) (omega arith)

    module _ (z : WordPosition) (Z : ℕ) (hZ : Z < 2 ^ 32) (rz : Reads a z Z) where
      pub xor_three : (r : ℕ) → (Holds a 64 (paired XorOfThree x y z (standing r)) ↔ Agree a r 32 (word_wires (X ⊕ Y ⊕ Z)))
      xor_three r =
          paired_rows XorOfThree x y z r (X ⊕ Y ⊕ Z) _
          (λ i l.
          xor_three_row a J (wire_at x i) (wire_at y i) (wire_at (standing r) i) (reads_bit x X rx i l) (reads_bit y Y ry i l)
          (wire_at z i) (reads_bit z Z rz i l))
          (λ i l. rw (rx i l, ry i l, rz i l) (bit_xor_3 i X Y Z))

      pub majority-word : (r : ℕ) → (Holds a 64 (paired Majority x y z (standing r)) ↔ Agree a r 32 (word_wires (majority X Y Z)))
      majority-word r =
          paired_rows Majority x y z r (majority X Y Z) _
          (λ i l.
          majority-row a J (wire_at x i) (wire_at y i) (wire_at (standing r) i) (reads_bit x X rx i l) (reads_bit y Y ry i l)
          (wire_at z i) (reads_bit z Z rz i l))
          (λ i l. rw (rx i l, ry i l, rz i l) (bit-majority i X Y Z))

      pub choice-word : (r : ℕ) → (Holds a 32 (choice_of x y z (standing r)) ↔ Agree a r 32 (word_wires (choice X Y Z)))
      unfolding choice_of
      choice-word r =
          word_rows r (choice X Y Z) _ _
          (λ i l.
          choice-row a J (wire_at x i) (wire_at y i) (wire_at (standing r) i) (reads_bit x X rx i l) (reads_bit y Y ry i l)
          (wire_at z i) (reads_bit z Z rz i l))
          (λ i l. rw (rx i l, ry i l, rz i l) (bit-choice i X Y Z hX))

      module _ (t : WordPosition) (T : ℕ) (hT : T < 2 ^ 32) (rt : Reads a t T) where
        pub sum-four : (r : ℕ) → (Holds a 35 (summed (four x y z t) 0 r) ↔ Agree a r 34 (sum_wires (X + Y + Z + T)))
        unfolding addend_terms former_value
        sum-four r =
            rw (add-zero (X + Y + Z + T)) at
            (sum_rows (four x y z t) 0 (X + Y + Z + T) r
            (omega (
              arith,
              value-append a (weighted x ++ weighted y) (weighted z ++ weighted t),
              value-words a x y X Y hX hY rx ry,
              value-words a z t Z T hZ hT rz rt,
            ))
            (omega arith))
