-- What a schema does with the values that were read: a freeze frame's speed is taken as 0.
use Rattle.std.proofs.Common.{◌≡◌, ◌≢◌, ℤ, pos, Bool, true, false, ◌||◌, cond, List, [], ◌∷◌, map, refl, sym, ap, ap₂, ◌∙◌}
use Rattle.std.specs.List.{list_any}
use Rattle.json_value.specs.declared.Json.{Json}
use Rattle.json_value.specs.declared.Json.TheVariants as J
use Rattle.schema_rows.specs.declared.schemas.Schema.{Schema}
use Rattle.schema_rows.specs.declared.schemas.Schema.TheVariants as S
use Rattle.schema_rows.specs.declared.schemas.TheConstants as C
use Rattle.schema_rows.specs.declared.values.Fields.{Fields}
use Rattle.schema_rows.specs.declared.values.Value.{Value}
use Rattle.schema_rows.specs.declared.values.Value.TheVariants as V
use Rattle.schema_rows.specs.Readings.{Reading, known, kept, missing_fields}
use Rattle.schema_rows.specs.Defaults.{empty_missing}
use Rattle.schema_rows.specs.Families.{Want, member, breaks, stilled, is_freeze}
use Rattle.schema_rows.specs.Stands as W
use Rattle.schema_rows.specs.Stands.{Gives_reading}
use Rattle.schema_write.specs.Tables.{reading_json}
use Rattle.object_law.proofs.Leaves.{map_not_null}

-- a speed that is taken as 0 is taken so once
twice : (t : Bool) (n : ℤ) → cond t (pos 0) (cond t (pos 0) n) ≡ cond t (pos 0) n
twice true n = refl
twice false n = refl

still_twice : (schema : Schema) (value : Value) → stilled schema (stilled schema value) ≡ stilled schema value
still_twice schema (V.Text x) = refl
still_twice schema (V.Flag x) = refl
still_twice schema (V.Meta x) = refl
still_twice schema (V.Span x) = refl
still_twice schema (V.Time x) = refl
still_twice schema (V.Number n) = ap V.Number (twice (is_freeze schema) n)
still_twice schema (V.Items x) = refl
still_twice schema (V.Effects x) = refl
still_twice schema (V.Markers x) = refl
still_twice schema (V.Media x) = refl
still_twice schema (V.Medium x) = refl
still_twice schema (V.Stack x) = refl
still_twice schema (V.Objects x) = refl
still_twice schema (V.Rate x) = refl
still_twice schema (V.Numeral x) = refl

pub all_still : (schema : Schema) (values : List Value) → map (stilled schema) (map (stilled schema) values) ≡ map (stilled schema) values
all_still schema [] = refl
all_still schema (value ∷ values) = ap₂ (λ (x : Value) (l : List Value). x ∷ l) (still_twice schema value) (all_still schema values)

-- numbers break no rule
number_breaks : (schema : Schema) (n m : ℤ) → breaks schema (V.Number n) ≡ breaks schema (V.Number m)
number_breaks S.Timeline n m = refl
number_breaks S.Collection n m = refl
number_breaks S.Stack n m = refl
number_breaks S.Track n m = refl
number_breaks S.Clip n m = refl
number_breaks S.FirstClip n m = refl
number_breaks S.Gap n m = refl
number_breaks S.Transition n m = refl
number_breaks S.Warp n m = refl
number_breaks S.Freeze n m = refl
number_breaks S.TimeEffect n m = refl
number_breaks S.Effect n m = refl
number_breaks S.Marker n m = refl
number_breaks S.FirstMarker n m = refl
number_breaks S.External n m = refl
number_breaks S.Missing n m = refl
number_breaks S.Generator n m = refl
number_breaks S.Images n m = refl
number_breaks S.TimeRange n m = refl
number_breaks S.RationalTime n m = refl

still_breaks : (schema : Schema) (value : Value) → breaks schema (stilled schema value) ≡ breaks schema value
still_breaks schema (V.Text x) = refl
still_breaks schema (V.Flag x) = refl
still_breaks schema (V.Meta x) = refl
still_breaks schema (V.Span x) = refl
still_breaks schema (V.Time x) = refl
still_breaks schema (V.Number n) = number_breaks schema (cond (is_freeze schema) (pos 0) n) n
still_breaks schema (V.Items x) = refl
still_breaks schema (V.Effects x) = refl
still_breaks schema (V.Markers x) = refl
still_breaks schema (V.Media x) = refl
still_breaks schema (V.Medium x) = refl
still_breaks schema (V.Stack x) = refl
still_breaks schema (V.Objects x) = refl
still_breaks schema (V.Rate x) = refl
still_breaks schema (V.Numeral x) = refl

pub all_break : (schema : Schema) (values : List Value) → list_any (breaks schema) (map (stilled schema) values) ≡ list_any (breaks schema) values
all_break schema [] = refl
all_break schema (value ∷ values) = ap₂ (λ (a b : Bool). a || b) (still_breaks schema value) (all_break schema values)

-- what was read of a value that isn't null isn't written as null
known_not_null : (reading : Reading) (fields : Fields) → reading ≡ known fields → reading_json reading ≢ J.Null
known_not_null reading fields r e = map_not_null _ (sym (ap reading_json r) ∙ e)

kept_not_null : (reading : Reading) (json : Json) → reading ≡ kept json → json ≢ J.Null → reading_json reading ≢ J.Null
kept_not_null reading json r some e = some (sym (ap reading_json r) ∙ e)

pub not_null : (want : Want) (json : Json) (reading : Reading) → Gives_reading want json reading → json ≢ J.Null → reading_json reading ≢ J.Null
not_null want json reading (W.as_child _ _ _ family fields w r g) some = known_not_null reading fields r
not_null want json reading (W.as_member _ _ _ family fields w r g) some = known_not_null reading fields r
not_null want json reading (W.as_kept _ _ _ family w r foreign) some = kept_not_null reading json r some
not_null want json reading (W.as_missing _ _ _ w j r) some = known_not_null reading (missing_fields empty_missing) r
not_null want json reading (W.as_medium _ _ _ w other g) some = not_null (member C.MEDIA) json reading g some
