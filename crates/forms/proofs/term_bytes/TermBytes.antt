-- The bytes of terms and how they are written: a number byte by byte, a term's coefficient behind its wire, and term
-- behind term.
use Rattle.std.proofs.Common.{◌≡◌, ℕ, ◌+◌, ◌*◌, ◌<◌, List, [], ◌∷◌, ◌++◌, length, get_or, ℤ, pos, negsuc, take, sym, refl, ap, ◌∙◌, ap₂, append_assoc, append-nil, add-one, arith, length-append, length-take-le, take-suc}
use Rattle.std.specs.Int.{cast_unsigned, w64}
use Rattle.encoding.proofs.Bytes.{length-least_first, length-twos_complement}
use Rattle.encoding.proofs.Written.{written_as, written_then}
use Rattle.encoding.specs.Bytes.{least_first, twos_complement}
use Rattle.encoding.specs.Written.{Written}
use Rattle.forms.specs.Coefficients.{coefficient}
use Rattle.forms.specs.TermBytes.{term_bytes, terms_bytes}
use Rattle.forms.specs.declared.form.Term.{Term}

-- the bytes of a signed number are those of its 64 bits
pub coefficient_bytes : (z : ℤ) → least_first 8 (cast_unsigned w64 z) ≡ twos_complement 8 z
unfolding twos_complement
coefficient_bytes (pos n) = refl
coefficient_bytes (negsuc n) = refl

term_length : (t : Term) → length (term_bytes t) ≡ 12
unfolding term_bytes
term_length t =
    length-append (least_first 4 t.wire.0) (twos_complement 8 (coefficient t))
    ∙ ap₂ (λ m n. m + n) (length-least_first 4 t.wire.0) (length-twos_complement 8 (coefficient t))

-- a term's coefficient goes behind its wire
pub term_written : (t : Term) (n at : ℕ) (l l' l'' : List ℕ) → least_first 8 n ≡ twos_complement 8 (coefficient t)
    → Written at (least_first 4 t.wire.0) l l' → Written (at + 4) (least_first 8 n) l' l'' → Written at (term_bytes t) l l''
unfolding term_bytes
term_written t n at l l' l'' e h h' =
    written_then (at + 4) (ap (λ k. at + k) (sym (length-least_first 4 t.wire.0))) h (written_as e h')

pub terms_append : (ts us : List Term) → terms_bytes (ts ++ us) ≡ terms_bytes ts ++ terms_bytes us
unfolding terms_bytes
terms_append [] us = refl
terms_append (t ∷ ts) us = ap (λ l. term_bytes t ++ l) (terms_append ts us) ∙ sym (append_assoc (term_bytes t) (terms_bytes ts) (terms_bytes us))

pub length-terms : (ts : List Term) → length (terms_bytes ts) ≡ 12 * length ts
unfolding terms_bytes
length-terms [] = refl
length-terms (t ∷ ts) = omega (arith, length-append (term_bytes t) (terms_bytes ts), term_length t, length-terms ts)

-- one list of terms behind another, and one more term of a list

pub terms_then : (ts us : List Term) {at : ℕ} {l m r : List ℕ} (end : ℕ) → end ≡ at + 12 * length ts → Written at (terms_bytes ts) l m
    → Written end (terms_bytes us) m r → Written at (terms_bytes (ts ++ us)) l r
terms_then ts us {at} end e p q =
    let place : end ≡ at + length (terms_bytes ts) = e ∙ ap (λ k. at + k) (sym (length-terms ts)) in
    written_as (sym (terms_append ts us)) (written_then end place p q)

pub terms-next : (ts : List Term) (i : ℕ) (d : Term) {at end : ℕ} {l m r : List ℕ} → i < length ts → end ≡ at + 12 * i
    → Written at (terms_bytes (take i ts)) l m → Written end (term_bytes (get_or ts i d)) m r → Written at (terms_bytes (take (i + 1) ts)) l r
unfolding terms_bytes
terms-next ts i d {at} {end} low e p q =
    let place : end ≡ at + 12 * length (take i ts) = omega (arith, length-take-le i ts (omega arith)) in
    rw (add-one i, take-suc ts i d low) (terms_then (take i ts) (get_or ts i d ∷ []) end place p (written_as (sym (append-nil _)) q))
