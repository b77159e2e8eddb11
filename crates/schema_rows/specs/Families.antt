-- What may stand in a list or under a key, and the rules of a schema on its own values.
use Rattle.std.specs.Prelude.{◌≡◌, ◌≢◌, ◌⊎◌, ℕ, ◌||◌, Bool, true, false, cond, not, pos, List, [], ◌∷◌, ◌++◌, Some, None, filter}
use Rattle.std.specs.List.{list_any}
use Rattle.std.specs.Str.{bytes_eq}
use Rattle.json_value.specs.declared.Json.{Json}
use Rattle.json_value.specs.declared.Json.TheVariants.{Null}
use Rattle.sequences.specs.Pairs.{value_of}
use Rattle.otio_model.specs.Misplaced.{side_by_side, is_negative}
use Rattle.otio_model.specs.Trees.{is_transition}
use Rattle.schema_rows.specs.Rows.{Row}
use Rattle.schema_rows.specs.declared.schemas.Schema.{Schema}
use Rattle.schema_rows.specs.declared.schemas.Schema.TheVariants as S
use Rattle.schema_rows.specs.declared.values.Value.{Value}
use Rattle.schema_rows.specs.declared.values.Value.TheVariants as V
use Rattle.schema_rows.specs.Schemas.{schema_key}

-- what is asked of a value: a child is an object of a family of schemas and has a place of its own;
-- a member is an object of the family or any other value, kept word for word; a medium is a member
-- of that of media references, or null
pub data Want : Type 0 where
  child : List Schema → Want
  member : List Schema → Want
  medium : Want

-- the place of the value at an index of a list
abbrev pub place_in : Want → List ℕ → ℕ → List ℕ
place_in (child family) place index = place ++ index ∷ []
place_in _ place index = place

-- the rows' names
abbrev pub is_row : List Row → List ℕ → Bool
is_row rows name = list_any (λ row. bytes_eq name row.name) rows

-- the members that the table has no row for
abbrev pub others : List Row → List (List ℕ × Json) → List (List ℕ × Json)
others rows members =
    filter (λ member. not (bytes_eq member.0 schema_key || is_row rows member.0)) members

-- no member has that name, or it is null, which counts as absent
abbrev pub IsAbsent : List ℕ → List (List ℕ × Json) → Type 0
IsAbsent name members = (value_of name members ≡ None) ⊎ (value_of name members ≡ Some Null)

-- the member of that name is that value, which is not null
abbrev pub IsGiven : List ℕ → List (List ℕ × Json) → Json → Type 0
IsGiven name members json = (value_of name members ≡ Some json) × (json ≢ Null)

-- the value breaks a rule on transitions: two side by side in a track, one in a stack, a negative
-- offset
abbrev pub breaks : Schema → Value → Bool
breaks S.Track (V.Items items) = side_by_side items
breaks S.Stack (V.Items items) = list_any is_transition items
breaks S.Transition (V.Time offset) = is_negative offset
breaks _ _ = false

-- whether the schema is that of freeze frames
abbrev pub is_freeze : Schema → Bool
is_freeze S.Freeze = true
is_freeze _ = false

-- a freeze frame's speed is 0, whatever its member says
abbrev pub stilled : Schema → Value → Value
stilled schema (V.Number speed) = V.Number (cond (is_freeze schema) (pos 0) speed)
stilled _ value = value
