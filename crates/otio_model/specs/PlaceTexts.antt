-- How a place in a tree is written.
use Rattle.std.specs.Prelude.{ℕ, List, [], ◌∷◌, ◌++◌, codes, decimal}

-- further indexes, each after `/`
abbrev pub more_indexes : List ℕ → List ℕ
more_indexes [] = []
more_indexes (index ∷ indexes) = codes "/" ++ (decimal index ++ more_indexes indexes)

-- the indexes from the root on, with `/` between them; `.` is the root itself
abbrev pub place_text : List ℕ → List ℕ
place_text [] = codes "."
place_text (index ∷ indexes) = decimal index ++ more_indexes indexes
