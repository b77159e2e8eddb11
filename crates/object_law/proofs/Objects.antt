-- A JSON value is an object of one schema, of one version.
use Rattle.std.proofs.Common.{◌≡◌, ◌≢◌, ◌≤◌, ◌<◌, ◌⊎◌, inl, inr, ℕ, suc, false, List, [], ◌∷◌, ◌++◌, length, Option, Some, None, map, refl, sym, ap, subst, ◌∙◌, arith, slice_index}
use Rattle.std.specs.List.{list_any}
use Rattle.std.specs.Str.Parse.{digits_value}
use Rattle.sequences.specs.Pairs.{value_of}
use Rattle.json_value.specs.declared.Json.{Json}
use Rattle.json_value.specs.declared.Json.TheVariants as J
use Rattle.schema_rows.specs.Rows.{Row}
use Rattle.schema_rows.specs.declared.schemas.Schema.{Schema}
use Rattle.schema_rows.specs.declared.values.Fields.{Fields}
use Rattle.schema_rows.specs.declared.values.Value.{Value}
use Rattle.schema_rows.specs.Schemas.{schema_key, rows_of, version_of, named, IsSchemaText, IsObjectOf, IsForeign}
use Rattle.schema_rows.specs.Families.{others, breaks, stilled, IsAbsent, IsGiven}
use Rattle.schema_rows.specs.Defaults.{absent_value}
use Rattle.schema_rows.specs.Stands as G
use Rattle.schema_rows.specs.Stands.{Gives, Gives_row, Gives_rows, Gives_fields}
use Rattle.object_law.proofs.Spellings.{first_of_list, behind_first}
use Rattle.schema_rows.proofs.JsonParts.{str_once, map_once}

abbrev NoPoint : List ℕ → Type 0
NoPoint name = (i : ℕ) → i < length name → slice_index name i ≢ 46

next_no_point : (x : ℕ) (xs : List ℕ) → NoPoint (x ∷ xs) → NoPoint xs
next_no_point x xs p i lt = p (suc i) (omega (arith, lt))

-- what stands before the first point, and what behind it
point_once : (n m d e : List ℕ) → NoPoint n → NoPoint m → n ++ 46 ∷ d ≡ m ++ 46 ∷ e → (n ≡ m) × (d ≡ e)
point_once [] [] d e p q h = (refl, ap behind_first h)
point_once [] (y ∷ ys) d e p q h = absurd (q 0 (omega arith) (sym (ap first_of_list h)))
point_once (x ∷ xs) [] d e p q h = absurd (p 0 (omega arith) (ap first_of_list h))
point_once (x ∷ xs) (y ∷ ys) d e p q h =
    let below = point_once xs ys d e (next_no_point x xs p) (next_no_point y ys q) (ap behind_first h) in
    (ap (λ (z : ℕ). z ∷ xs) (ap first_of_list h) ∙ ap (λ (zs : List ℕ). y ∷ zs) below.0, below.1)

text_once : (text n m : List ℕ) (v w : ℕ) → IsSchemaText text n v → IsSchemaText text m w → (n ≡ m) × (v ≡ w)
text_once text n m v w p q =
    let parts = point_once n m p.digits q.digits p.no_point q.no_point (sym p.spelled ∙ q.spelled) in
    (parts.0, p.version_is ∙ ap (digits_value 10) parts.1 ∙ sym q.version_is)

abbrev json_or : Json → Option Json → Json
json_or d None = d
json_or d (Some json) = json

pub value_once : (o : Option Json) (a b : Json) → o ≡ Some a → o ≡ Some b → a ≡ b
value_once o a b p q = ap (json_or a) (sym p ∙ q)

pub object_once : (json : Json) (m n : List (List ℕ × Json)) (a b : List ℕ) (v w : ℕ) → IsObjectOf json m a v → IsObjectOf json n b w → (m ≡ n) × (a ≡ b) × (v ≡ w)
object_once json m n a b v w p q =
    let members = map_once json m n p.object q.object in
    let member : value_of schema_key m ≡ Some (J.Str q.text) = ap (value_of schema_key) members ∙ q.member in
    let text = str_once (J.Str p.text) p.text q.text refl (value_once (value_of schema_key m) (J.Str p.text) (J.Str q.text) p.member member) in
    let parts = text_once q.text a b v w (subst (λ (t : List ℕ). IsSchemaText t a v) text p.schema) q.schema in (members, parts.0, parts.1)

abbrev schema_or : Schema → Option Schema → Schema
schema_or d None = d
schema_or d (Some schema) = schema

-- the schema of the object is one
pub schema_once : (family : List Schema) (a b : List ℕ) (s t : Schema) → a ≡ b → named a family ≡ Some s → named b family ≡ Some t → s ≡ t
schema_once family a b s t e p q = ap (schema_or s) (sym p ∙ ap (λ (n : List ℕ). named n family) e ∙ q)

none_is_not_some : (o : Option Schema) (s : Schema) → o ≡ None → o ≡ Some s → ⊥
none_is_not_some o s p q = cc

pub not_foreign : (family : List Schema) (json : Json) (members : List (List ℕ × Json)) (name : List ℕ) (version : ℕ) (schema : Schema)
    → IsObjectOf json members name version → named name family ≡ Some schema → IsForeign family json → ⊥
not_foreign family json members name version schema o is foreign = none_is_not_some (named name family) schema (foreign members name version o) is

pub not_unknown : (family : List Schema) (json : Json) (m n : List (List ℕ × Json)) (a b : List ℕ) (v w : ℕ) (s : Schema)
    → IsObjectOf json m a v → named a family ≡ Some s → IsObjectOf json n b w → named b family ≡ None → ⊥
not_unknown family json m n a b v w s o is p none =
    none_is_not_some (named a family) s (ap (λ (x : List ℕ). named x family) (object_once json m n a b v w o p).1 ∙ none) is

-- what fields say, the object and its schema being known
pub record Fielded (members : List (List ℕ × Json)) (version : ℕ) (schema : Schema) (fields : Fields) : Type 0 where
  pub schema_is : fields.schema ≡ schema
  pub known : version ≤ version_of schema
  pub values : List Value
  pub rows : Gives_rows (rows_of schema) members values
  pub quiet : list_any (breaks schema) values ≡ false
  pub values_are : fields.values ≡ map (stilled schema) values
  pub rest_is : fields.rest ≡ others (rows_of schema) members

move : (m n : List (List ℕ × Json)) (v w : ℕ) (s t : Schema) (fields : Fields) → m ≡ n → v ≡ w → s ≡ t → Fielded m v s fields → Fielded n w t fields
move m n v w s t fields em ev es h =
    subst (λ (x : Schema). Fielded n w x fields) es (subst (λ (x : ℕ). Fielded n x s fields) ev (subst (λ (x : List (List ℕ × Json)). Fielded x v s fields) em h))

pub fielded : (family : List Schema) (json : Json) (fields : Fields) → Gives_fields family json fields → (members : List (List ℕ × Json)) (name : List ℕ) (version : ℕ) (schema : Schema)
    → IsObjectOf json members name version → named name family ≡ Some schema → Fielded members version schema fields
fielded family json fields (G.fields _ _ _ m n v values o is known rows quiet va ra) members name version schema p also =
    let same = object_once json m members n name v version o p in
    move m members v version fields.schema schema fields same.0 same.2 (schema_once family n name fields.schema schema same.1 is also)
    (record { schema_is = refl; known = known; values = values; rows = rows; quiet = quiet; values_are = va; rest_is = ra })

-- the object of the fields
pub record Named (family : List Schema) (json : Json) : Type 0 where
  pub members : List (List ℕ × Json)
  pub name : List ℕ
  pub version : ℕ
  pub schema : Schema
  pub object : IsObjectOf json members name version
  pub is : named name family ≡ Some schema

pub named_given : (family : List Schema) (json : Json) (fields : Fields) → Gives_fields family json fields → Named family json
named_given family json fields (G.fields _ _ _ m n v values o is known rows quiet va ra) = record { members = m; name = n; version = v; schema = fields.schema; object = o; is = is }

-- by the member of a row
abbrev pub RowGiven : Row → List (List ℕ × Json) → Value → Type 0
RowGiven row members v = ((json : Json) × IsGiven row.name members json × Gives row.kind json v) ⊎ (IsAbsent row.name members × (absent_value row ≡ Some v))

pub row_given : {row : Row} {members : List (List ℕ × Json)} {v : Value} → Gives_row row members v → RowGiven row members v
row_given (G.present row members v json is g) = inl (json, is, g)
row_given (G.absent row members v none default) = inr (none, default)

pub member_once : (name : List ℕ) (members : List (List ℕ × Json)) (a b : Json) → IsGiven name members a → IsGiven name members b → a ≡ b
member_once name members a b p q = value_once (value_of name members) a b p.0 q.0

some_not_none : (o : Option Json) (a : Json) → o ≡ Some a → o ≡ None → ⊥
some_not_none o a p q = cc

pub not_absent : (name : List ℕ) (members : List (List ℕ × Json)) (json : Json) → IsGiven name members json → IsAbsent name members → ⊥
not_absent name members json p (inl none) = some_not_none (value_of name members) json p.0 none
not_absent name members json p (inr null) = p.1 (value_once (value_of name members) json J.Null p.0 null)
