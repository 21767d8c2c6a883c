-- The eight bytes of the length are copied behind the first 56.
use Rattle.std.proofs.Common.{◌≡◌, ◌++◌, length, drop, take, refl, sym, ap, ◌∙◌, arith}
use Rattle.std.proofs.lemmas.List.{drop_all}
use Rattle.std.proofs.lemmas.Slice.{put_mid-paste}
use lib.Seq.{take_all}
use mathlib.Core.List.{append-nil}
use native.Mathlib.Nat.{le_of_eq}
use Rattle.encoding.proofs.Bytes.{length-highest_first}
use Rattle.encoding.proofs.Chunk.{number_bytes}
use Rattle.encoding.specs.Bytes.{highest_first}
use Rattle.sm3.proofs.message.with_length.Goals as goal

pub returns : goal.returns
returns c =
    let b = c.args.b in
    let bits = c.args.bits in
    let size : length b ≡ 64 = omega arith in
    let eight : length (highest_first 8 bits) ≡ 8 = length-highest_first 8 bits in
    put_mid-paste 56 8 b _ (highest_first 8 bits) 8 (c.copy_from_slice.ensures.after ∙ c.to_be_bytes.ensures ∙ number_bytes bits) refl (sym eight)
    ∙ ap (λ xs. take 56 b ++ xs ++ drop 64 b) (take_all 8 (highest_first 8 bits) (le_of_eq eight))
    ∙ ap (λ xs. take 56 b ++ highest_first 8 bits ++ xs) (drop_all 64 b (le_of_eq size))
    ∙ append-nil (take 56 b ++ highest_first 8 bits)
