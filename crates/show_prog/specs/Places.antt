-- Places in a tree, as the code writes them.
use Rattle.std.specs.Prelude.{ℕ, List, [], ◌∷◌, ◌++◌, codes, decimal}
use Rattle.show_prog.specs.declared.places.Way.{Way, fold-Way}
use Rattle.show_prog.specs.declared.places.Way.TheOpen.{Way-F}

-- the indexes from the root on with `/` after each, as they stand before a further one
abbrev pub lead_text : List ℕ → List ℕ
lead_text [] = []
lead_text (i ∷ place) = decimal i ++ (codes "/" ++ lead_text place)

abbrev pub way_step : Way-F (List ℕ) → List ℕ
way_step Way-F.Root = []
way_step (Way-F.Child outer index) = outer.now ++ index ∷ []

-- the place that a way leads to
abbrev pub place_of : Way → List ℕ
place_of = fold-Way (List ℕ) way_step
