-- What a JSON value represents by the tables of the schemas (OpenTimelineIO's schema pages).
use Rattle.std.specs.Prelude.{◌≡◌, ◌≤◌, ◌≢◌, ℕ, ℤ, Bool, false, List, [], ◌∷◌, Some, map}
use Rattle.std.specs.List.{list_any}
use Rattle.sequences.specs.Pairs.{names_of}
use Rattle.json_value.specs.declared.Json.{Json}
use Rattle.json_value.specs.declared.Json.TheVariants as J
use Rattle.tick_time.specs.declared.decimals.Decimal.{Decimal}
use Rattle.tick_time.specs.declared.rates.Rate.{Rate}
use Rattle.tick_time.specs.declared.times.Time.{Time}
use Rattle.tick_time.specs.declared.spans.Span.{Span}
use Rattle.tick_time.specs.Decimals.{millionths, IsHalfEven}
use Rattle.tick_time.specs.Rates.{GivesRate}
use Rattle.tick_time.specs.Sums.{IsTimeOf}
use Rattle.tick_time.specs.Times.{IsSpeed}
use Rattle.otio_model.specs.declared.compositions.Listed.{Listed}
use Rattle.otio_model.specs.declared.compositions.ItemOf.{ItemOf}
use Rattle.otio_model.specs.declared.compositions.StackOf.{StackOf}
use Rattle.otio_model.specs.declared.objects.Object.{Object}
use Rattle.otio_model.specs.declared.effect_types.Effect.{Effect}
use Rattle.otio_model.specs.declared.markers.Marker.{Marker}
use Rattle.otio_model.specs.declared.media.Media.{Media}
use Rattle.schema_rows.specs.Rows as R
use Rattle.schema_rows.specs.Rows.{Row, RowKind}
use Rattle.schema_rows.specs.declared.schemas.Schema.{Schema}
use Rattle.schema_rows.specs.declared.schemas.TheConstants as C
use Rattle.schema_rows.specs.declared.values.Fields.{Fields}
use Rattle.schema_rows.specs.declared.values.Value.{Value}
use Rattle.schema_rows.specs.declared.values.Value.TheVariants as V
use Rattle.schema_rows.specs.Schemas.{rows_of, version_of, named, IsObjectOf, IsForeign}
use Rattle.schema_rows.specs.Numerals.{IsSpelled, value_of_decimal}
use Rattle.schema_rows.specs.Readings.{Reading, known, kept, stack_fields, item_fields, object_fields, effect_reading, marker_reading, medium_reading, missing_fields}
use Rattle.schema_rows.specs.Defaults.{absent_value, empty_missing}
use Rattle.schema_rows.specs.Families.{Want, child, member, medium, others, IsAbsent, IsGiven, breaks, stilled}

mutual
  -- the JSON value gives the value in a row of the kind
  pub data Gives : RowKind → Json → Value → Type 0 where
    text : (kind : RowKind) (json : Json) (value : Value) (default : List ℕ) (characters : List ℕ)
        → kind ≡ R.text default → json ≡ J.Str characters → value ≡ V.Text characters
        → Gives kind json value
    flag : (kind : RowKind) (json : Json) (value : Value) (truth : Bool) → kind ≡ R.flag
        → json ≡ J.Bool truth → value ≡ V.Flag truth → Gives kind json value
    meta : (kind : RowKind) (json : Json) (value : Value) (members : List (List ℕ × Json))
        → kind ≡ R.meta → json ≡ J.Map members → value ≡ V.Meta members → Gives kind json value
    span : (kind : RowKind) (json : Json) (value : Value) (fields : Fields) (span : Span)
        → kind ≡ R.span → Gives_fields C.RANGES json fields
        → fields.values ≡ V.Time (Some span.len) ∷ V.Time (Some span.start) ∷ []
        → value ≡ V.Span (Some span) → Gives kind json value
    time : (kind : RowKind) (json : Json) (value : Value) (fields : Fields) (rate : Rate)
        (decimal : Decimal) (time : Time) → kind ≡ R.time → Gives_fields C.TIMES json fields
        → fields.values ≡ V.Rate rate ∷ V.Numeral decimal ∷ []
        → IsTimeOf (value_of_decimal decimal) rate time → value ≡ V.Time (Some time)
        → Gives kind json value
    number : (kind : RowKind) (json : Json) (value : Value) (default : ℤ) (numeral : List ℕ)
        (decimal : Decimal) (speed : ℤ) → kind ≡ R.number default → json ≡ J.Num numeral
        → IsSpelled numeral decimal → IsHalfEven (millionths (value_of_decimal decimal)) speed
        → IsSpeed speed → value ≡ V.Number speed → Gives kind json value
    rate : (kind : RowKind) (json : Json) (value : Value) (numeral : List ℕ) (decimal : Decimal)
        (rate : Rate) → kind ≡ R.rate → json ≡ J.Num numeral
        → IsSpelled numeral decimal → GivesRate (value_of_decimal decimal) rate.num rate.den
        → value ≡ V.Rate rate → Gives kind json value
    numeral : (kind : RowKind) (json : Json) (value : Value) (numeral : List ℕ) (decimal : Decimal)
        → kind ≡ R.numeral → json ≡ J.Num numeral
        → IsSpelled numeral decimal → value ≡ V.Numeral decimal → Gives kind json value
    items : (kind : RowKind) (json : Json) (value : Value) (list : List Json)
        (items : List (ItemOf Listed)) → kind ≡ R.items → json ≡ J.List list
        → Gives_all (child C.ITEMS) list (map (λ item. known (item_fields item)) items)
        → value ≡ V.Items items → Gives kind json value
    objects : (kind : RowKind) (json : Json) (value : Value) (list : List Json)
        (objects : List Object) → kind ≡ R.objects → json ≡ J.List list
        → Gives_all (child C.ROOTS) list (map (λ object. known (object_fields object)) objects)
        → value ≡ V.Objects objects → Gives kind json value
    effects : (kind : RowKind) (json : Json) (value : Value) (list : List Json)
        (effects : List Effect) → kind ≡ R.effects → json ≡ J.List list
        → Gives_all (member C.EFFECTS) list (map effect_reading effects) → value ≡ V.Effects effects
        → Gives kind json value
    markers : (kind : RowKind) (json : Json) (value : Value) (list : List Json)
        (markers : List Marker) → kind ≡ R.markers → json ≡ J.List list
        → Gives_all (member C.MARKERS) list (map marker_reading markers) → value ≡ V.Markers markers
        → Gives kind json value
    media : (kind : RowKind) (json : Json) (value : Value) (members : List (List ℕ × Json))
        (media : List (List ℕ × Media)) → kind ≡ R.media → json ≡ J.Map members
        → names_of members ≡ names_of media
        → Gives_all medium (map (λ member. member.1) members)
        (map (λ member. medium_reading member.1) media) → value ≡ V.Media media
        → Gives kind json value
    one_medium : (kind : RowKind) (json : Json) (value : Value) (reference : Media)
        → kind ≡ R.medium → Gives_reading medium json (medium_reading reference)
        → value ≡ V.Medium reference → Gives kind json value
    stack : (kind : RowKind) (json : Json) (value : Value) (stack : StackOf Listed) → kind ≡ R.stack
        → Gives_fields C.STACKS json (stack_fields stack)
        → value ≡ V.Stack stack → Gives kind json value

  -- the row has the value among the members of an object: what its member gives, or what stands
  -- where it is absent
  pub data Gives_row : Row → List (List ℕ × Json) → Value → Type 0 where
    present : (row : Row) (members : List (List ℕ × Json)) (value : Value) (json : Json)
        → IsGiven row.name members json → Gives row.kind json value → Gives_row row members value
    absent : (row : Row) (members : List (List ℕ × Json)) (value : Value)
        → IsAbsent row.name members → absent_value row ≡ Some value → Gives_row row members value

  -- each row in order has its value
  pub data Gives_rows : List Row → List (List ℕ × Json) → List Value → Type 0 where
    no_rows : (rows : List Row) (members : List (List ℕ × Json)) (values : List Value) → rows ≡ []
        → values ≡ [] → Gives_rows rows members values
    more_rows : (rows : List Row) (members : List (List ℕ × Json)) (values : List Value) (row : Row)
        (below : List Row) (value : Value) (behind : List Value)
        → rows ≡ row ∷ below → values ≡ value ∷ behind → Gives_row row members value
        → Gives_rows below members behind → Gives_rows rows members values

  -- the JSON value is an object of a schema of the family with these fields
  pub data Gives_fields : List Schema → Json → Fields → Type 0 where
    fields : (family : List Schema) (json : Json) (fields : Fields) (members : List (List ℕ × Json))
        (name : List ℕ) (version : ℕ) (values : List Value)
        → IsObjectOf json members name version → named name family ≡ Some fields.schema
        → version ≤ version_of fields.schema → Gives_rows (rows_of fields.schema) members values
        → list_any (breaks fields.schema) values ≡ false
        → fields.values ≡ map (stilled fields.schema) values
        → fields.rest ≡ others (rows_of fields.schema) members → Gives_fields family json fields

  -- the JSON value is read so, as what is asked of it
  pub data Gives_reading : Want → Json → Reading → Type 0 where
    as_child : (want : Want) (json : Json) (reading : Reading) (family : List Schema)
        (fields : Fields) → want ≡ child family → reading ≡ known fields
        → Gives_fields family json fields → Gives_reading want json reading
    as_member : (want : Want) (json : Json) (reading : Reading) (family : List Schema)
        (fields : Fields) → want ≡ member family → reading ≡ known fields
        → Gives_fields family json fields → Gives_reading want json reading
    as_kept : (want : Want) (json : Json) (reading : Reading) (family : List Schema)
        → want ≡ member family → reading ≡ kept json → IsForeign family json
        → Gives_reading want json reading
    as_missing : (want : Want) (json : Json) (reading : Reading) → want ≡ medium → json ≡ J.Null
        → reading ≡ known (missing_fields empty_missing) → Gives_reading want json reading
    as_medium : (want : Want) (json : Json) (reading : Reading) → want ≡ medium → json ≢ J.Null
        → Gives_reading (member C.MEDIA) json reading → Gives_reading want json reading

  -- each JSON value in order is read so
  pub data Gives_all : Want → List Json → List Reading → Type 0 where
    no_more : (want : Want) (list : List Json) (readings : List Reading) → list ≡ [] → readings ≡ []
        → Gives_all want list readings
    one_more : (want : Want) (list : List Json) (readings : List Reading) (json : Json)
        (others : List Json) (reading : Reading) (behind : List Reading)
        → list ≡ json ∷ others → readings ≡ reading ∷ behind → Gives_reading want json reading
        → Gives_all want others behind → Gives_all want list readings

-- the JSON value represents the object
abbrev pub Stands : Json → Object → Type 0
Stands json object = Gives_fields C.ROOTS json (object_fields object)
