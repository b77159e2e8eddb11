-- What is read of a value, from the fields of the object that it is.
use Rattle.std.proofs.Common.{◌≡◌, ◌≢◌, ℕ, List, [], ◌∷◌, Result, Ok, Err, Some, IfOk, IfErr, refl, sym, ap, subst, ◌∙◌}
use Rattle.json_value.specs.declared.Json.{Json}
use Rattle.json_value.specs.declared.Json.TheVariants as J
use Rattle.otio_model.specs.declared.compositions.Listed.{Listed}
use Rattle.otio_model.specs.declared.compositions.ItemOf.{ItemOf}
use Rattle.otio_model.specs.declared.objects.Object.{Object}
use Rattle.otio_model.specs.declared.effect_types.Effect.{Effect}
use Rattle.otio_model.specs.declared.markers.Marker.{Marker}
use Rattle.otio_model.specs.declared.media.Media.{Media}
use Rattle.schema_rows.specs.declared.faults.SchemaFault.{SchemaFault}
use Rattle.schema_rows.specs.declared.faults.SchemaFault.TheVariants as F
use Rattle.schema_rows.specs.declared.schemas.Schema.{Schema}
use Rattle.schema_rows.specs.declared.schemas.TheConstants as C
use Rattle.schema_rows.specs.declared.values.Fields.{Fields}
use Rattle.schema_rows.specs.declared.values.Value.{Value}
use Rattle.schema_rows.specs.Readings.{known, item_fields, object_fields, effect_reading, marker_reading, medium_reading}
use Rattle.schema_rows.specs.Families.{child, member, medium}
use Rattle.schema_rows.specs.Rows as R
use Rattle.schema_rows.specs.Rows.{Row, RowKind}
use Rattle.schema_rows.specs.Numerals.{HasNumerals, IsWithin, itself, value_of_decimal}
use Rattle.schema_rows.specs.Faults.{IsWrong, Refuses, wrong, negative, beyond, HasNegative, HasBeyond}
use Rattle.tick_time.specs.Numerals.{IsNumeral}
use Rattle.tick_time.specs.Sums.{IsTimeOf}
use Rattle.tick_time.specs.declared.decimals.Decimal.{Decimal}
use Rattle.tick_time.specs.declared.rates.Rate.{Rate}
use Rattle.tick_time.specs.declared.spans.Span.{Span}
use Rattle.tick_time.specs.declared.times.Time.{Time}
use Rattle.schema_rows.specs.declared.values.Value.TheVariants as V
use Rattle.schema_rows.specs.Stands.{Gives, span, time, Gives_fields, Gives_reading, as_child, as_member, as_medium}

-- fields that have the same schema, values and other members
pub fields_are : (made fields : Fields) → made.schema ≡ fields.schema → made.values ≡ fields.values → made.rest ≡ fields.rest → made ≡ fields
fields_are made fields a b c =
    ap (λ (s : Schema). record made { schema = s }) a ∙ ap (λ (v : List Value). record fields { values = v; rest = made.rest }) b ∙ ap (λ (r : List (List ℕ × Json)). record fields { rest = r }) c

pub known_are : (made fields : Fields) → made.schema ≡ fields.schema → made.values ≡ fields.values → made.rest ≡ fields.rest → known made ≡ known fields
known_are made fields a b c = ap known (fields_are made fields a b c)

pub item_read : (r : Result (ItemOf Listed) SchemaFault) (family : List Schema) (json : Json) (fields : Fields) → Gives_fields family json fields
    → IfOk r (λ item. item_fields item ≡ fields) → IfOk r (λ item. Gives_reading (child family) json (known (item_fields item)))
item_read (Ok item) family json fields g e = as_child _ _ _ family (item_fields item) refl refl (subst (Gives_fields family json) (sym e) g)
item_read (Err fault) family json fields g e = tt

pub object_read : (r : Result Object SchemaFault) (family : List Schema) (json : Json) (fields : Fields) → Gives_fields family json fields
    → IfOk r (λ object. object_fields object ≡ fields) → IfOk r (λ object. Gives_reading (child family) json (known (object_fields object)))
object_read (Ok object) family json fields g e = as_child _ _ _ family (object_fields object) refl refl (subst (Gives_fields family json) (sym e) g)
object_read (Err fault) family json fields g e = tt

pub effect_read : (r : Result Effect SchemaFault) (family : List Schema) (json : Json) (fields : Fields) → Gives_fields family json fields
    → IfOk r (λ effect. effect_reading effect ≡ known fields) → IfOk r (λ effect. Gives_reading (member family) json (effect_reading effect))
effect_read (Ok effect) family json fields g e = as_member _ _ _ family fields refl e g
effect_read (Err fault) family json fields g e = tt

pub marker_read : (r : Result Marker SchemaFault) (family : List Schema) (json : Json) (fields : Fields) → Gives_fields family json fields
    → IfOk r (λ marker. marker_reading marker ≡ known fields) → IfOk r (λ marker. Gives_reading (member family) json (marker_reading marker))
marker_read (Ok marker) family json fields g e = as_member _ _ _ family fields refl e g
marker_read (Err fault) family json fields g e = tt

pub medium_read : (r : Result Media SchemaFault) (json : Json) (fields : Fields) → json ≢ J.Null → Gives_fields C.MEDIA json fields
    → IfOk r (λ reference. medium_reading reference ≡ known fields) → IfOk r (λ reference. Gives_reading medium json (medium_reading reference))
medium_read (Ok reference) json fields n g e = as_medium _ _ _ refl n (as_member _ _ _ C.MEDIA fields refl e g)
medium_read (Err fault) json fields n g e = tt

-- the one fault that may come is out of memory
pub memory_only : {A : Type 0} (r : Result A SchemaFault) (P : SchemaFault → Type 0) → IfErr r (λ fault. fault ≡ F.Memory) → IfErr r (λ fault. fault ≢ F.Memory → P fault)
memory_only (Ok x) P h = tt
memory_only (Err fault) P h = λ n. absurd (n h)

-- a member of the wrong kind, where the row's kind is known
pub wrong_field : (place : List ℕ) (row : Row) (json : Json) (kind : RowKind) (fault : SchemaFault) → row.kind ≡ kind → IsWrong kind json
    → (fault ≢ F.Memory → fault ≡ F.Field place row.name) → fault ≢ F.Memory → Refuses place row json fault
wrong_field place row json kind fault k w e n = wrong place row json fault (subst (λ (x : RowKind). IsWrong x json) (sym k) w) (e n)

-- a value that is a numeral is one of JSON
pub own_numeral : (value : Json) (text : List ℕ) → value ≡ J.Num text → HasNumerals value → IsNumeral text
own_numeral value text e h = h text (subst (λ (x : Json). IsWithin x (J.Num text)) (sym e) (itself (J.Num text)))

pub span_read : (r : Result Value SchemaFault) (kind : RowKind) (json : Json) (fields : Fields) → kind ≡ R.span → Gives_fields C.RANGES json fields
    → IfOk r (λ value. (s : Span) × (fields.values ≡ V.Time (Some s.len) ∷ V.Time (Some s.start) ∷ []) × (value ≡ V.Span (Some s))) → IfOk r (λ value. Gives kind json value)
span_read (Ok value) kind json fields k g h = span kind json value fields h.0 k g h.1 h.2
span_read (Err fault) kind json fields k g h = tt

pub span_refused : (r : Result Value SchemaFault) (place : List ℕ) (row : Row) (json : Json) (fields : Fields) → row.kind ≡ R.span → Gives_fields C.RANGES json fields
    → IfErr r (λ f. f ≢ F.Memory → HasNegative fields.values × (f ≡ F.Range place)) → IfErr r (λ f. f ≢ F.Memory → Refuses place row json f)
span_refused (Ok value) place row json fields k g h = tt
span_refused (Err fault) place row json fields k g h = λ n. negative place row json fault fields k g (h n).0 (h n).1

pub time_read : (r : Result Value SchemaFault) (kind : RowKind) (json : Json) (fields : Fields) → kind ≡ R.time → Gives_fields C.TIMES json fields
    → IfOk r (λ value. (rate : Rate) × (decimal : Decimal) × (t : Time) × (fields.values ≡ V.Rate rate ∷ V.Numeral decimal ∷ []) × IsTimeOf (value_of_decimal decimal) rate t × (value ≡ V.Time (Some t)))
    → IfOk r (λ value. Gives kind json value)
time_read (Ok value) kind json fields k g h = time kind json value fields h.0 h.1 h.2 k g h.3 h.4 h.5
time_read (Err fault) kind json fields k g h = tt

pub time_refused : (r : Result Value SchemaFault) (place : List ℕ) (row : Row) (json : Json) (fields : Fields) → row.kind ≡ R.time → Gives_fields C.TIMES json fields
    → IfErr r (λ f. f ≢ F.Memory → HasBeyond fields.values × (f ≡ F.Range place)) → IfErr r (λ f. f ≢ F.Memory → Refuses place row json f)
time_refused (Ok value) place row json fields k g h = tt
time_refused (Err fault) place row json fields k g h = λ n. beyond place row json fault fields k g (h n).0 (h n).1
