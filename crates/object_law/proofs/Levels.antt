-- What a row, rows, fields, a value that is asked for and a list give is one; that of what stands inside is known.
use Rattle.std.proofs.Common.{◌≡◌, ◌≢◌, inl, inr, ℕ, List, [], ◌∷◌, Option, Some, None, map, sym, ap, subst, ◌∙◌}
use Rattle.json_value.specs.declared.Json.{Json}
use Rattle.json_value.specs.declared.Json.TheVariants as J
use Rattle.schema_rows.specs.Rows.{Row}
use Rattle.schema_rows.specs.declared.schemas.Schema.{Schema}
use Rattle.schema_rows.specs.declared.schemas.TheConstants as C
use Rattle.schema_rows.specs.declared.values.Fields.{Fields}
use Rattle.schema_rows.specs.declared.values.Value.{Value}
use Rattle.schema_rows.specs.Schemas.{rows_of, named, IsObjectOf, IsForeign}
use Rattle.schema_rows.specs.Readings.{Reading, known, kept, missing_fields}
use Rattle.schema_rows.specs.Defaults.{absent_value, empty_missing}
use Rattle.schema_rows.specs.Families.{Want, child, member, medium, others, stilled, IsAbsent, IsGiven}
use Rattle.schema_rows.specs.Stands.{Gives, Gives_row, Gives_rows, Gives_fields, Gives_reading, Gives_all}
use Rattle.object_law.proofs.SeenValues.{Folded, View, Sight, known_as, seen, seen_fields, seen_reading}
use Rattle.object_law.proofs.GivenCases.{Read, read_as, read_all_as, rows_given_as}
use Rattle.object_law.proofs.Objects.{fielded, named_given, RowGiven, row_given, member_once, not_absent, not_foreign}
use Rattle.object_law.proofs.Lists.{both_more, stills_once}

abbrev value_or : Value → Option Value → Value
value_or d None = d
value_or d (Some v) = v

-- a row whose member is there
pub present_once : (φ : Folded) (row : Row) (members : List (List ℕ × Json)) (v w : Value) (json : Json) → IsGiven row.name members json
    → ((x : Value) → Gives row.kind json x → seen φ v ≡ seen φ x) → Gives_row row members w → seen φ v ≡ seen φ w
present_once φ row members v w json is once h = by (row_given h) where
  by : RowGiven row members w → seen φ v ≡ seen φ w
  by (inl (other, also, g)) = once w (subst (λ (j : Json). Gives row.kind j w) (member_once row.name members other json also is) g)
  by (inr (none, default)) = absurd (not_absent row.name members json is none)

-- and one whose member is not
pub absent_once : (φ : Folded) (row : Row) (members : List (List ℕ × Json)) (v w : Value) → IsAbsent row.name members → absent_value row ≡ Some v → Gives_row row members w → seen φ v ≡ seen φ w
absent_once φ row members v w none default h = by (row_given h) where
  by : RowGiven row members w → seen φ v ≡ seen φ w
  by (inl (other, also, g)) = absurd (not_absent row.name members other also none)
  by (inr (_, again)) = ap (seen φ) (ap (value_or v) (sym default ∙ again))

pub no_rows_once : (φ : Folded) (rows : List Row) (members : List (List ℕ × Json)) (vs ws : List Value) → rows ≡ [] → vs ≡ [] → Gives_rows rows members ws → map (seen φ) vs ≡ map (seen φ) ws
no_rows_once φ rows members vs ws er ev h = ap (map (seen φ)) (ev ∙ sym (rows_given_as rows [] members ws er h))

pub more_rows_once : (φ : Folded) (rows : List Row) (members : List (List ℕ × Json)) (vs ws : List Value) (row : Row) (below : List Row) (v : Value) (behind : List Value) → rows ≡ row ∷ below → vs ≡ v ∷ behind
    → ((x : Value) → Gives_row row members x → seen φ v ≡ seen φ x) → ((xs : List Value) → Gives_rows below members xs → map (seen φ) behind ≡ map (seen φ) xs)
    → Gives_rows rows members ws → map (seen φ) vs ≡ map (seen φ) ws
more_rows_once φ rows members vs ws row below v behind er ev first later h =
    let (w, more, ew, g, gs) = rows_given_as rows (row ∷ below) members ws er h in
    ap (map (seen φ)) ev ∙ both_more (seen φ v) (seen φ w) (map (seen φ) behind) (map (seen φ) more) (first w g) (later more gs) ∙ sym (ap (map (seen φ)) ew)

abbrev sight : {A : Type 0} → Schema → List (View A) → List (List ℕ × Json) → Sight A
sight schema views rest = record { schema = schema; views = views; rest = rest }

pub fields_once : (φ : Folded) (family : List Schema) (json : Json) (f g : Fields) (members : List (List ℕ × Json)) (name : List ℕ) (version : ℕ) (values : List Value)
    → IsObjectOf json members name version → named name family ≡ Some f.schema → f.values ≡ map (stilled f.schema) values → f.rest ≡ others (rows_of f.schema) members
    → ((xs : List Value) → Gives_rows (rows_of f.schema) members xs → map (seen φ) values ≡ map (seen φ) xs) → Gives_fields family json g → seen_fields φ f ≡ seen_fields φ g
fields_once φ family json f g members name version values o is va ra once h =
    let x = fielded family json g h members name version f.schema o is in
    let views : map (seen φ) f.values ≡ map (seen φ) g.values
    = ap (map (seen φ)) va ∙ stills_once φ f.schema values x.values (once x.values x.rows) ∙ sym (ap (map (seen φ)) x.values_are) in
    ap (λ (s : Schema). sight s (map (seen φ) f.values) f.rest) (sym x.schema_is)
    ∙ ap (λ (vs : List (View φ.A)). sight g.schema vs f.rest) views
    ∙ ap (λ (rest : List (List ℕ × Json)). sight g.schema (map (seen φ) g.values) rest) (ra ∙ sym x.rest_is)

abbrev FieldsOnce : Folded → List Schema → Json → Fields → Type 0
FieldsOnce φ family json f = (x : Fields) → Gives_fields family json x → seen_fields φ f ≡ seen_fields φ x

pub child_once : (φ : Folded) (want : Want) (json : Json) (r t : Reading) (family : List Schema) (f : Fields) → want ≡ child family → r ≡ known f → FieldsOnce φ family json f
    → Gives_reading want json t → seen_reading φ r ≡ seen_reading φ t
child_once φ want json r t family f ew er once h =
    let (g, is, gives) = read_as want (child family) json t ew h in
    ap (seen_reading φ) er ∙ ap known_as (once g gives) ∙ sym (ap (seen_reading φ) is)

pub member_once_in : (φ : Folded) (want : Want) (json : Json) (r t : Reading) (family : List Schema) (f : Fields) → want ≡ member family → r ≡ known f → Gives_fields family json f
    → FieldsOnce φ family json f → Gives_reading want json t → seen_reading φ r ≡ seen_reading φ t
member_once_in φ want json r t family f ew er own once h = by (read_as want (member family) json t ew h) where
  by : Read (member family) json t → seen_reading φ r ≡ seen_reading φ t
  by (inl (g, is, gives)) = ap (seen_reading φ) er ∙ ap known_as (once g gives) ∙ sym (ap (seen_reading φ) is)
  by (inr (is, foreign)) =
      let n = named_given family json f own in absurd (not_foreign family json n.members n.name n.version n.schema n.object n.is foreign)

pub kept_once : (φ : Folded) (want : Want) (json : Json) (r t : Reading) (family : List Schema) → want ≡ member family → r ≡ kept json → IsForeign family json
    → Gives_reading want json t → seen_reading φ r ≡ seen_reading φ t
kept_once φ want json r t family ew er foreign h = by (read_as want (member family) json t ew h) where
  by : Read (member family) json t → seen_reading φ r ≡ seen_reading φ t
  by (inl (g, is, gives)) =
      let n = named_given family json g gives in absurd (not_foreign family json n.members n.name n.version n.schema n.object n.is foreign)
  by (inr (is, _)) = ap (seen_reading φ) (er ∙ sym is)

pub missing_once : (φ : Folded) (want : Want) (json : Json) (r t : Reading) → want ≡ medium → json ≡ J.Null → r ≡ known (missing_fields empty_missing) → Gives_reading want json t → seen_reading φ r ≡ seen_reading φ t
missing_once φ want json r t ew ej er h = by (read_as want medium json t ew h) where
  by : Read medium json t → seen_reading φ r ≡ seen_reading φ t
  by (inl (_, is)) = ap (seen_reading φ) (er ∙ sym is)
  by (inr (some, _)) = absurd (some ej)

pub medium_once : (φ : Folded) (want : Want) (json : Json) (r t : Reading) → want ≡ medium → json ≢ J.Null
    → ((x : Reading) → Gives_reading (member C.MEDIA) json x → seen_reading φ r ≡ seen_reading φ x) → Gives_reading want json t → seen_reading φ r ≡ seen_reading φ t
medium_once φ want json r t ew some once h = by (read_as want medium json t ew h) where
  by : Read medium json t → seen_reading φ r ≡ seen_reading φ t
  by (inl (null, _)) = absurd (some null)
  by (inr (_, g)) = once t g

pub no_more_once : (φ : Folded) (want : Want) (list : List Json) (rs ts : List Reading) → list ≡ [] → rs ≡ [] → Gives_all want list ts → map (seen_reading φ) rs ≡ map (seen_reading φ) ts
no_more_once φ want list rs ts el er h = ap (map (seen_reading φ)) (er ∙ sym (read_all_as want list [] ts el h))

pub one_more_once : (φ : Folded) (want : Want) (list : List Json) (rs ts : List Reading) (json : Json) (others : List Json) (r : Reading) (behind : List Reading) → list ≡ json ∷ others → rs ≡ r ∷ behind
    → ((x : Reading) → Gives_reading want json x → seen_reading φ r ≡ seen_reading φ x) → ((xs : List Reading) → Gives_all want others xs → map (seen_reading φ) behind ≡ map (seen_reading φ) xs)
    → Gives_all want list ts → map (seen_reading φ) rs ≡ map (seen_reading φ) ts
one_more_once φ want list rs ts json others r behind el er first later h =
    let (t, more, et, g, gs) = read_all_as want list (json ∷ others) ts el h in
    ap (map (seen_reading φ)) er ∙ both_more (seen_reading φ r) (seen_reading φ t) (map (seen_reading φ) behind) (map (seen_reading φ) more) (first t g) (later more gs)
    ∙ sym (ap (map (seen_reading φ)) et)
