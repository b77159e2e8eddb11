-- A value is an object of one schema.
use Rattle.std.proofs.Common.{◌≡◌, ℕ, List, Some, None, sym, ap, subst, ◌∙◌}
use Rattle.sequences.specs.Pairs.{value_of}
use Rattle.json_value.specs.declared.Json.{Json}
use Rattle.json_value.specs.declared.Json.TheVariants as J
use Rattle.schema_rows.specs.declared.schemas.Schema.{Schema}
use Rattle.schema_rows.specs.Schemas.{IsObjectOf, IsForeign, IsSchemaText, named, schema_key}
use Rattle.schema_rows.proofs.JsonParts.{map_once}
use Rattle.schema_tab.proofs.Points.{cut_once}

text_once : (a b : List ℕ) → Some (J.Str a) ≡ Some (J.Str b) → a ≡ b
text_once a b e = cc

-- two ways to see a value as an object of a schema are one
pub object_once : {json : Json} {m k : List (List ℕ × Json)} {n o : List ℕ} {v w : ℕ} → IsObjectOf json m n v → IsObjectOf json k o w → (m ≡ k) × (n ≡ o)
object_once {json} {m} {k} {n} {o} {v} {w} a b =
    let members : m ≡ k = map_once json m k a.object b.object in
    let text : a.text ≡ b.text = text_once a.text b.text (sym a.member ∙ ap (value_of schema_key) members ∙ b.member) in
    let cut = cut_once n a.schema.digits o b.schema.digits (sym a.schema.spelled ∙ text ∙ b.schema.spelled) a.schema.no_point b.schema.no_point in
    (members, cut.0)

-- an object whose schema has no name of the family
pub foreign_by : (family : List Schema) {json : Json} {m : List (List ℕ × Json)} {n : List ℕ} {v : ℕ} → IsObjectOf json m n v → named n family ≡ None → IsForeign family json
foreign_by family {json} {m} {n} {v} a h = λ k o w b. subst (λ (x : List ℕ). named x family ≡ None) (object_once a b).1 h

-- a string that is no schema's leaves its object without one
pub no_schema : (json : Json) (ms : List (List ℕ × Json)) (text : List ℕ) → json ≡ J.Map ms → value_of schema_key ms ≡ Some (J.Str text) → ((n : List ℕ) (v : ℕ) → IsSchemaText text n v → ⊥)
    → (m : List (List ℕ × Json)) (n : List ℕ) (v : ℕ) → IsObjectOf json m n v → ⊥
no_schema json ms text e member none m n v o =
    let members : m ≡ ms = map_once json m ms o.object e in
    let same : o.text ≡ text = text_once o.text text (sym o.member ∙ ap (value_of schema_key) members ∙ member) in
    none n v (subst (λ (t : List ℕ). IsSchemaText t n v) same o.schema)
