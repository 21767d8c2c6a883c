-- The sixteen words that are copied stand in front.
use Rattle.std.proofs.Common.{◌≡◌, ℕ, List, ◌++◌, length, take, ◌∙◌, ap, arith}
use Rattle.std.proofs.lemmas.List.{take_all, take-append-le}
use Rattle.runs.proofs.block_rows.with_room.Goals as goal

front : {words copied : List ℕ} (more : List ℕ) → 16 ≡ length words → copied ≡ words → take 16 (copied ++ more) ≡ words
front {words} more full e =
    ap (λ w. take 16 (w ++ more)) e ∙ take-append-le 16 words more (omega arith) ∙ take_all 16 words (omega arith)

pub returns : goal.returns
returns c = front _ (omega arith) c.copy_from_slice.ensures.after
