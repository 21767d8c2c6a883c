-- What is printed for an input that is refused (document 01, "What `rows` prints").
use Rattle.std.specs.Prelude.{List, ◌++◌, ℕ}
use Rattle.text.specs.Decimal.{field}
use Rattle.text.specs.Text.{ascii, line_feed}

-- "A refused line prints `refused,` and the number, and nothing else"
unfoldable pub refused : ℕ → List ℕ
refused r = ascii "refused," ++ field r line_feed
