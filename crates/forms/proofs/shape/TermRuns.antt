-- Terms on runs of wires that do not overlap have different wires.
use Rattle.std.proofs.Common.{◌≡◌, ℕ, ◌+◌, ◌<◌, ◌≤◌, List, [], ◌∷◌, ◌++◌, arith}
use Rattle.field.specs.Field.{p}
use Rattle.forms.proofs.shape.All.{all_append, all_map, pairwise_append}
use Rattle.forms.proofs.shape.Clear.{Clear}
use Rattle.forms.proofs.shape.Rises.{Part}
use Rattle.forms.specs.Positions.{one}
use Rattle.forms.specs.Rows.{◌·◌}
use Rattle.forms.specs.Shape.{All, Distinct}
use Rattle.forms.specs.declared.form.Term.{Term}

-- a term's wire is one of the n from a on
abbrev pub On : ℕ → ℕ → Term → Type 0
On a n t = (a ≤ t.wire.0) × (t.wire.0 < a + n)

-- .. or none of them
abbrev pub Off : ℕ → ℕ → Term → Type 0
Off a n t = a ≤ t.wire.0 → a + n ≤ t.wire.0

-- terms of different wires among the n from a on
pub record Run (a n : ℕ) (ts : List Term) : Type 0 where
  pub on : All (On a n) ts
  pub distinct : Distinct ts
  pub residues : All (λ t. t.residue < p) ts

module _ (a n : ℕ) (ts : List Term) (r : Run a n ts) where
  pub run_off : (b m : ℕ) → Clear b m a n → All (Off b m) ts
  run_off b m c = all_map (On a n) (Off b m) (λ t h l. omega (arith, c (omega arith))) ts r.on

  pub run_part : (m : ℕ) → a + n ≤ m → Part m ts
  run_part m h =
      record {
        distinct = r.distinct;
        wires = all_map (On a n) (λ t. t.wire.0 < m) (λ t k. omega arith) ts r.on;
        residues = r.residues;
      }

  -- a run before terms whose wires are none of its own
  pub run-before : (m : ℕ) (us : List Term) → a + n ≤ m → Part m us → All (Off a n) us → Part m (ts ++ us)
  run-before m us h q off =
      record {
        distinct =
            pairwise_append _ ts us r.distinct q.distinct
            (all_map (On a n) (λ t. All (λ u. t.wire.0 ≡ u.wire.0 → ⊥) us)
            (λ t k. all_map (Off a n) (λ u. t.wire.0 ≡ u.wire.0 → ⊥) (λ u l e. omega (arith, l (omega arith))) us off) ts r.on);
        wires = all_append (λ t. t.wire.0 < m) ts us (run_part m h).wires q.wires;
        residues = all_append (λ t. t.residue < p) ts us r.residues q.residues;
      }

pub constant-run : (c : ℕ) → c < p → Run 0 1 (c · one ∷ [])
constant-run c h = record { on = omega arith; distinct = (tt, tt); residues = omega arith }
