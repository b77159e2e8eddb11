-- A list or an object that is not closed yet.
use Rattle.std.specs.Prelude.{ℕ, List}
use Rattle.json_value.specs.declared.Json.{Json}
use Rattle.json_text.specs.declared.state.Level.{Level}
use Rattle.json_text.specs.declared.state.Kind.{Kind}
use Rattle.json_text.specs.declared.state.Kind.TheVariants.{List as KindOfList, Map as KindOfMap}

-- what a list or an object that is not closed yet holds so far; of an object also the name whose
-- value is to come
pub data Unclosed : Type 0 where
  list : List Json → Unclosed
  map : List (List ℕ × Json) → List ℕ → Unclosed

-- that of a kind, of what may be kept for either
abbrev pub unclosed_in : Kind → List Json → List (List ℕ × Json) → List ℕ → Unclosed
unclosed_in KindOfList items pairs name = list items
unclosed_in KindOfMap items pairs name = map pairs name

-- what a level holds
abbrev pub unclosed_of : Level → Unclosed
unclosed_of level = unclosed_in level.kind level.items.items level.pairs.items level.name
