-- Words, written one after the other at the front of a buffer. Each takes the four bytes behind those before it.
use Rattle.std.proofs.Common.{◌≡◌, ℕ, ◌+◌, ◌*◌, ◌<◌, ◌≤◌, List, [], ◌++◌, length, drop, get_or, take, sym, refl, ap, ◌∙◌, subst, arith, length-append}
use Rattle.std.proofs.lemmas.List.Sums.{fold_more}
use Rattle.std.specs.List.{fold}
use Rattle.encoding.proofs.Bytes.{length-highest_first}
use Rattle.encoding.proofs.Written.{written-front, written_none, written_then}
use Rattle.encoding.specs.Bytes.{highest_first}
use Rattle.encoding.specs.Written.{Written}
use Rattle.sm3.specs.Message.{bytes_of}
use Rattle.sm3.specs.Sm3.{words_of}
use Rattle.sm3.specs.declared.state.State.{State}

-- the bytes of words, one after the other
abbrev pub joined : List ℕ → List ℕ
joined words = fold (λ xs w. xs ++ highest_first 4 w) [] words

-- the first k words are written at the front of l
pub record Front (words : List ℕ) (k : ℕ) (l l' : List ℕ) : Type 0 where
  pub size : length (joined (take k words)) ≡ 4 * k
  pub wrote : Written 0 (joined (take k words)) l l'

pub none_written : (words l : List ℕ) → Front words 0 l l
none_written words l = record { size = refl; wrote = written_none 0 l }

-- one word more
pub word_written : (words : List ℕ) (k : ℕ) {l l' l'' : List ℕ} → k < length words → Front words k l l'
    → Written (4 * k) (highest_first 4 (get_or words k 0)) l' l'' → Front words (k + 1) l l''
word_written words k {l} {l'} {l''} below f h =
    let before : List ℕ = joined (take k words) in
    let four = length-highest_first 4 (get_or words k 0) in
    let more : joined (take (k + 1) words) ≡ before ++ highest_first 4 (get_or words k 0) =
    fold_more (λ (xs : List ℕ) (w : ℕ). xs ++ highest_first 4 w) [] words k 0 below in
    let size : length (joined (take (k + 1) words)) ≡ 4 * (k + 1) =
    ap length more ∙ omega (arith, f.size, four, length-append before (highest_first 4 (get_or words k 0))) in
    record {
      size = size;
      wrote = subst (λ (xs : List ℕ). Written 0 xs l l'') (sym more) (written_then (4 * k) (omega (arith, f.size)) f.wrote h);
    }

-- all eight words are the digest's 32 bytes
pub all_written : (words : List ℕ) (s : State) (k : ℕ) {l l' : List ℕ} → words ≡ words_of s → k ≡ 8 → 32 ≤ length l
    → Front words k l l' → l' ≡ bytes_of s ++ drop 32 l
unfolding bytes_of
all_written words s k {l} {l'} e all room f =
    let whole : Front (words_of s) 8 l l' =
    subst (λ (n : ℕ). Front (words_of s) n l l') all (subst (λ (ws : List ℕ). Front ws k l l') e f) in
    written-front 32 whole.size room whole.wrote
