-- The members of a row, wherever they lie.
use Rattle.std.specs.Prelude.{List, [], ◌∷◌}
use Rattle.sequences.specs.declared.rows.Row.{Row}
use Rattle.sequences.specs.declared.rows.Row.TheVariants.{Nothing, One, Many}

abbrev pub members : {X : Type 0} → Row X → List X
members Nothing = []
members (One item) = item.value ∷ []
members (Many list) = list.value.items
