-- The lines of an object of a schema in its layout.
use Rattle.std.specs.Prelude.{ℕ, ◌||◌, List, [], ◌∷◌, ◌++◌, if◌then◌else◌}
use Rattle.std.specs.Str.{bytes_eq}
use Rattle.json_value.specs.declared.Json.{Json}
use Rattle.json_text.specs.StringTexts.{quoted}
use Rattle.json_text.specs.Layout.{newline, member_text, text_at}
use Rattle.schema_rows.specs.declared.schemas.Schema.{Schema}
use Rattle.schema_rows.specs.Schemas.{schema_key, text_of}
use Rattle.schema_rows.specs.Rows.{Row}
use Rattle.schema_rows.specs.Families.{is_row}

-- the bracket, and the object's schema on a line of this level
abbrev pub head_text : Schema → ℕ → List ℕ
head_text schema n = 123 ∷ (newline n ++ member_text schema_key (quoted (text_of schema)))

-- a comma, and the name of a member on a line of this level, up to its value
abbrev pub row_front : List ℕ → ℕ → List ℕ
row_front name n = 44 ∷ (newline n ++ (quoted name ++ (58 ∷ 32 ∷ [])))

-- a member after another one, on a line of this level
abbrev pub row_text : List ℕ → Json → ℕ → List ℕ
row_text name value n = row_front name n ++ text_at value n

-- members after another one, each on a line of this level
abbrev pub member_rows : List (List ℕ × Json) → ℕ → List ℕ
member_rows [] n = []
member_rows (member ∷ members) n = row_text member.0 member.1 n ++ member_rows members n

-- the closing bracket on a line of this level
abbrev pub end_text : ℕ → List ℕ
end_text n = newline n ++ (125 ∷ [])

-- the line of a member where a table has no row for it
abbrev pub other_text : List Row → List ℕ × Json → ℕ → List ℕ
other_text rows member n =
    if bytes_eq member.0 schema_key || is_row rows member.0 then []
    else row_text member.0 member.1 n

-- the same of an older schema, where the newer one's table has no row for it either
abbrev pub old_other_text : List Row → List Row → List ℕ × Json → ℕ → List ℕ
old_other_text newer rows member n =
    if bytes_eq member.0 schema_key || is_row newer member.0 then []
    else other_text rows member n
