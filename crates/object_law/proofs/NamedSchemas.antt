-- The names of schemas, and objects of a schema in the written order.
use Rattle.std.proofs.Common.{◌≡◌, ◌≢◌, ℕ, zero, suc, ◌+◌, ◌<◌, ◌≤◌, Bool, true, false, not, ◌&&◌, List, [], ◌∷◌, ◌++◌, length, slice_index, Some, map, refl, sym, ◌∙◌, arith}
use Rattle.std.specs.Prelude.{◌==◌}
use Rattle.std.specs.Char.{digit_value}
use Rattle.std.specs.List.{list_any}
use Rattle.std.proofs.lemmas.Bool.{false≢true}
use Rattle.std.proofs.lemmas.Bool.Decides.{nat_tests}
use Rattle.std.proofs.lemmas.Str.{digit_value_digit}
use Rattle.tick_time.proofs.BoolLemmas.{both}
use Rattle.json_value.specs.declared.Json.{Json}
use Rattle.json_value.specs.declared.Json.TheVariants as J
use Rattle.schema_rows.specs.declared.schemas.Schema.{Schema}
use Rattle.schema_rows.specs.declared.schemas.Schema.TheVariants as S
use Rattle.schema_rows.specs.declared.values.Value.{Value}
use Rattle.schema_rows.specs.Schemas.{schema_key, name_of, version_of, text_of, rows_of, named, IsSchemaText}
use Rattle.schema_rows.specs.Families.{others, breaks, stilled}
use Rattle.schema_rows.specs.Stands as W
use Rattle.schema_rows.specs.Stands.{Gives_fields}
use Rattle.schema_rows.proofs.Distinct.{rows_distinct, table_distinct}
use Rattle.schema_write.specs.Written.{named_values, written}
use Rattle.object_law.proofs.FoundMembers.{HoldsAll, rows_stand, not_schema, others_written}

abbrev has_no_point : List ℕ → Bool
has_no_point [] = true
has_no_point (c ∷ cs) = not (c == 46) && has_no_point cs

no_point_here : (c : ℕ) (t : Bool) → (c == 46) ≡ t → not t ≡ true → c ≢ 46
no_point_here c true e h = absurd (false≢true h)
no_point_here c false e h = grind (arith, nat_tests, e)

no_point_by : (cs : List ℕ) → has_no_point cs ≡ true → (i : ℕ) → i < length cs → slice_index cs i ≢ 46
no_point_by [] h i less = absurd (omega arith)
no_point_by (c ∷ cs) h zero less = no_point_here c (c == 46) refl (both (not (c == 46)) (has_no_point cs) h).0
no_point_by (c ∷ cs) h (suc i) less = no_point_by cs (both (not (c == 46)) (has_no_point cs) h).1 i (omega arith)

text_by : (name : List ℕ) (version : ℕ) → 0 < length name → has_no_point name ≡ true → version ≤ 9 → IsSchemaText (name ++ 46 ∷ (48 + version) ∷ []) name version
text_by name version some h small =
    let digit : digit_value (48 + version) + 48 ≡ 48 + version = digit_value_digit (48 + version) (omega arith, omega arith) in
    record {
      digits = (48 + version) ∷ [];
      spelled = refl;
      some_name = some;
      no_point = no_point_by name h;
      some_digits = omega arith;
      few_digits = omega arith;
      all_digits = (omega (arith, digit), tt);
      version_is = omega (arith, digit);
    }

-- the text of a schema is its name, a point and its version
pub schema_text : (schema : Schema) → IsSchemaText (text_of schema) (name_of schema) (version_of schema)
schema_text S.Timeline = text_by (name_of S.Timeline) 1 (omega arith) refl (omega arith)
schema_text S.Collection = text_by (name_of S.Collection) 1 (omega arith) refl (omega arith)
schema_text S.Stack = text_by (name_of S.Stack) 1 (omega arith) refl (omega arith)
schema_text S.Track = text_by (name_of S.Track) 1 (omega arith) refl (omega arith)
schema_text S.Clip = text_by (name_of S.Clip) 2 (omega arith) refl (omega arith)
schema_text S.FirstClip = text_by (name_of S.FirstClip) 1 (omega arith) refl (omega arith)
schema_text S.Gap = text_by (name_of S.Gap) 1 (omega arith) refl (omega arith)
schema_text S.Transition = text_by (name_of S.Transition) 1 (omega arith) refl (omega arith)
schema_text S.Warp = text_by (name_of S.Warp) 1 (omega arith) refl (omega arith)
schema_text S.Freeze = text_by (name_of S.Freeze) 1 (omega arith) refl (omega arith)
schema_text S.TimeEffect = text_by (name_of S.TimeEffect) 1 (omega arith) refl (omega arith)
schema_text S.Effect = text_by (name_of S.Effect) 1 (omega arith) refl (omega arith)
schema_text S.Marker = text_by (name_of S.Marker) 2 (omega arith) refl (omega arith)
schema_text S.FirstMarker = text_by (name_of S.FirstMarker) 1 (omega arith) refl (omega arith)
schema_text S.External = text_by (name_of S.External) 1 (omega arith) refl (omega arith)
schema_text S.Missing = text_by (name_of S.Missing) 1 (omega arith) refl (omega arith)
schema_text S.Generator = text_by (name_of S.Generator) 1 (omega arith) refl (omega arith)
schema_text S.Images = text_by (name_of S.Images) 1 (omega arith) refl (omega arith)
schema_text S.TimeRange = text_by (name_of S.TimeRange) 1 (omega arith) refl (omega arith)
schema_text S.RationalTime = text_by (name_of S.RationalTime) 1 (omega arith) refl (omega arith)

-- an object in the written order stands for the values that its rows give
pub written_stands : (family : List Schema) (schema : Schema) (jsons : List Json) (values : List Value) (rest : List (List ℕ × Json)) → named (name_of schema) family ≡ Some schema
    → HoldsAll (rows_of schema) jsons values → list_any (breaks schema) values ≡ false → values ≡ map (stilled schema) values → rest ≡ others (rows_of schema) rest
    → Gives_fields family (written schema jsons rest) (record { schema = schema; values = values; rest = rest })
written_stands family schema jsons values rest known hold whole still only =
    W.fields family (written schema jsons rest) (record { schema = schema; values = values; rest = rest })
    ((schema_key, J.Str (text_of schema)) ∷ (named_values (rows_of schema) jsons ++ others (rows_of schema) rest)) (name_of schema) (version_of schema) values
    (record { object = refl; text = text_of schema; member = refl; schema = schema_text schema }) known (omega arith)
    (rows_stand (rows_of schema) jsons values ((schema_key, J.Str (text_of schema)) ∷ (named_values (rows_of schema) jsons ++ others (rows_of schema) rest)) (others (rows_of schema) rest) (rows_distinct schema)
    (λ name h. not_schema name (rows_of schema) (J.Str (text_of schema)) (named_values (rows_of schema) jsons ++ others (rows_of schema) rest) (table_distinct schema) h) hold)
    whole still (only ∙ sym (others_written (rows_of schema) jsons rest (J.Str (text_of schema))))
