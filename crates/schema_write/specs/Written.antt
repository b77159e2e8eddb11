-- An object of a schema in JSON, in the written order.
use Rattle.std.specs.Prelude.{ℕ, List, [], ◌∷◌, ◌++◌}
use Rattle.json_value.specs.declared.Json.{Json, Str, Map}
use Rattle.schema_rows.specs.declared.rows.Field.{Field}
use Rattle.schema_rows.specs.Rows.{Row}
use Rattle.schema_rows.specs.declared.schemas.Schema.{Schema}
use Rattle.schema_rows.specs.declared.schemas.Schema.TheVariants as S
use Rattle.schema_rows.specs.Schemas.{schema_key, text_of, rows_of}
use Rattle.schema_rows.specs.Families.{others}

-- the name of a row that the code keeps
abbrev pub name_of : Field → List ℕ
name_of field = field.name.now

-- values under the names of rows
abbrev pub named_values : List Row → List Json → List (List ℕ × Json)
named_values [] values = []
named_values (row ∷ rows) [] = []
named_values (row ∷ rows) (value ∷ values) = (row.name, value) ∷ named_values rows values

-- the object's schema, then the values of the schema's rows from left to right, then the other
-- members in their order
abbrev pub written : Schema → List Json → List (List ℕ × Json) → Json
written schema values rest =
    Map ((schema_key, Str (text_of schema))
    ∷ (named_values (rows_of schema) values ++ others (rows_of schema) rest))

-- the newer schema of the same name; an upgrade makes an object of it of one of the older
abbrev pub newer_of : Schema → Schema
newer_of S.FirstClip = S.Clip
newer_of S.FirstMarker = S.Marker
newer_of schema = schema

-- an object of an older schema: other members are those that neither its table has a row for nor
-- that of the newer one
abbrev pub written_old : Schema → List Json → List (List ℕ × Json) → Json
written_old schema values rest = written schema values (others (rows_of (newer_of schema)) rest)
