-- The names of a table's rows are distinct.
use Rattle.std.proofs.Common.{◌≡◌, ℕ, true, List, ◌∷◌, map, refl}
use Rattle.sequences.specs.Pairs.{AreDistinct}
use Rattle.sequences.proofs.NameTests.{are_distinct, distinct_by}
use Rattle.schema_rows.specs.declared.schemas.Schema.{Schema}
use Rattle.schema_rows.specs.declared.schemas.Schema.TheVariants as S
use Rattle.schema_rows.specs.Rows.{Row}
use Rattle.schema_rows.specs.Schemas.{rows_of, schema_key}

-- the names of rows
abbrev pub row_names : List Row → List (List ℕ)
row_names rows = map (λ (row : Row). row.name) rows

-- the name of the schema's member and those of a table's rows
abbrev table_names : Schema → List (List ℕ)
table_names schema = schema_key ∷ row_names (rows_of schema)

table_test : (schema : Schema) → are_distinct (table_names schema) ≡ true
table_test S.Timeline = refl
table_test S.Collection = refl
table_test S.Stack = refl
table_test S.Track = refl
table_test S.Clip = refl
table_test S.FirstClip = refl
table_test S.Gap = refl
table_test S.Transition = refl
table_test S.Warp = refl
table_test S.Freeze = refl
table_test S.TimeEffect = refl
table_test S.Effect = refl
table_test S.Marker = refl
table_test S.FirstMarker = refl
table_test S.External = refl
table_test S.Missing = refl
table_test S.Generator = refl
table_test S.Images = refl
table_test S.TimeRange = refl
table_test S.RationalTime = refl

-- the name of the schema's member and those of a table's rows are distinct
pub table_distinct : (schema : Schema) → AreDistinct (schema_key ∷ row_names (rows_of schema))
table_distinct schema = distinct_by (table_names schema) (table_test schema)

-- the rows of each schema have distinct names
pub rows_distinct : (schema : Schema) → AreDistinct (row_names (rows_of schema))
rows_distinct schema = (table_distinct schema).1
