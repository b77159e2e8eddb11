-- The schemas of OpenTimelineIO: their names, versions and tables, and the schema that a JSON
-- object names.
use Rattle.std.specs.Prelude.{◌≡◌, ◌≢◌, ℕ, ◌<◌, ◌≤◌, ◌+◌, List, [], ◌∷◌, ◌++◌, length, slice_index, Option, Some, None, if◌then◌else◌, codes}
use Rattle.std.specs.Str.{bytes_eq}
use Rattle.std.specs.Str.Parse.{AllDigits, digits_value}
use Rattle.sequences.specs.Pairs.{value_of}
use Rattle.json_value.specs.declared.Json.{Json}
use Rattle.json_value.specs.declared.Json.TheVariants.{Str, Map}
use Rattle.schema_rows.specs.declared.schemas.Schema.{Schema}
use Rattle.schema_rows.specs.declared.schemas.Schema.TheVariants as S
use Rattle.schema_rows.specs.Rows.{Row, timeline_rows, collection_rows, stack_rows, track_rows, clip_rows, first_clip_rows, gap_rows, transition_rows, warp_rows, freeze_rows, time_effect_rows, effect_rows, marker_rows, first_marker_rows, external_rows, missing_rows, generator_rows, images_rows, time_range_rows, rational_time_rows}

-- the member that names an object's schema
abbrev pub schema_key : List ℕ
schema_key = codes "OTIO_SCHEMA"

-- the name of a schema
abbrev pub name_of : Schema → List ℕ
name_of S.Timeline = codes "Timeline"
name_of S.Collection = codes "SerializableCollection"
name_of S.Stack = codes "Stack"
name_of S.Track = codes "Track"
name_of S.Clip = codes "Clip"
name_of S.FirstClip = codes "Clip"
name_of S.Gap = codes "Gap"
name_of S.Transition = codes "Transition"
name_of S.Warp = codes "LinearTimeWarp"
name_of S.Freeze = codes "FreezeFrame"
name_of S.TimeEffect = codes "TimeEffect"
name_of S.Effect = codes "Effect"
name_of S.Marker = codes "Marker"
name_of S.FirstMarker = codes "Marker"
name_of S.External = codes "ExternalReference"
name_of S.Missing = codes "MissingReference"
name_of S.Generator = codes "GeneratorReference"
name_of S.Images = codes "ImageSequenceReference"
name_of S.TimeRange = codes "TimeRange"
name_of S.RationalTime = codes "RationalTime"

-- the version of a schema's table
abbrev pub version_of : Schema → ℕ
version_of S.Clip = 2
version_of S.Marker = 2
version_of _ = 1

-- what an object of the schema is written with: the name, a point and the version
abbrev pub text_of : Schema → List ℕ
text_of schema = name_of schema ++ 46 ∷ (48 + version_of schema) ∷ []

-- the rows of a schema's table, in the order in which they are written
abbrev pub rows_of : Schema → List Row
rows_of S.Timeline = timeline_rows
rows_of S.Collection = collection_rows
rows_of S.Stack = stack_rows
rows_of S.Track = track_rows
rows_of S.Clip = clip_rows
rows_of S.FirstClip = first_clip_rows
rows_of S.Gap = gap_rows
rows_of S.Transition = transition_rows
rows_of S.Warp = warp_rows
rows_of S.Freeze = freeze_rows
rows_of S.TimeEffect = time_effect_rows
rows_of S.Effect = effect_rows
rows_of S.Marker = marker_rows
rows_of S.FirstMarker = first_marker_rows
rows_of S.External = external_rows
rows_of S.Missing = missing_rows
rows_of S.Generator = generator_rows
rows_of S.Images = images_rows
rows_of S.TimeRange = time_range_rows
rows_of S.RationalTime = rational_time_rows

-- the text is a name without points, a point and a version of 1 to 9 digits
pub record IsSchemaText (text name : List ℕ) (version : ℕ) : Type 0 where
  pub digits : List ℕ
  pub spelled : text ≡ name ++ 46 ∷ digits
  pub some_name : 0 < length name
  pub no_point : (i : ℕ) → i < length name → slice_index name i ≢ 46
  pub some_digits : 0 < length digits
  pub few_digits : length digits ≤ 9
  pub all_digits : AllDigits 10 digits
  pub version_is : version ≡ digits_value 10 digits

-- the value is an object of these members, whose schema has this name and this version
pub record IsObjectOf (json : Json) (members : List (List ℕ × Json)) (name : List ℕ)
    (version : ℕ) : Type 0 where
  pub object : json ≡ Map members
  pub text : List ℕ
  pub member : value_of schema_key members ≡ Some (Str text)
  pub schema : IsSchemaText text name version

-- the schema of that name among those of a family
abbrev pub named : List ℕ → List Schema → Option Schema
named name [] = None
named name (schema ∷ family) =
    if bytes_eq name (name_of schema) then Some schema else named name family

-- the value is no object whose schema has a name of the family
abbrev pub IsForeign : List Schema → Json → Type 0
IsForeign family json = (members : List (List ℕ × Json)) (name : List ℕ) (version : ℕ)
    → IsObjectOf json members name version → named name family ≡ None
