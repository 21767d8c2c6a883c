-- Devices of the contracts of private functions, on which no public contract rests: the numbers of a line that is written.
use Rattle.std.specs.Prelude.{List, [], ◌∷◌, ◌++◌, ℕ, ◌<◌, ◌^◌}
use Rattle.passage.specs.Format.{axles, class, lane, time}
use Rattle.passage.specs.Write.{numeral}
use Rattle.passage.specs.declared.numbers.Numbers.{Numbers}
use Rattle.text.specs.Text.{comma}

-- each has room in its digits
abbrev pub Fit : Numbers → Type 0
Fit n =
    (n.lane < 10 ^ lane.many) × (n.time < 10 ^ time.many) × (n.class < 10 ^ class.many) × (n.axles < 10 ^ axles.many)

-- the line up to its plate
unfoldable pub front : Numbers → List ℕ
front n =
    numeral lane.many n.lane ++ (comma ∷ (numeral time.many n.time ++ (comma ∷ (numeral class.many n.class
    ++ (comma ∷ (numeral axles.many n.axles ++ (comma ∷ [])))))))
