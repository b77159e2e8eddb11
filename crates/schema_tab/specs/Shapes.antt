-- Values of the kinds of a table's rows.
use Rattle.std.specs.Prelude.{◌≡◌, ◌⊎◌, ℕ, ℤ, Bool, List, [], ◌∷◌, map, Option, Some, None}
use Rattle.json_value.specs.declared.Json.{Json}
use Rattle.tick_time.specs.declared.decimals.Decimal.{Decimal}
use Rattle.tick_time.specs.declared.rates.Rate.{Rate}
use Rattle.tick_time.specs.declared.spans.Span.{Span}
use Rattle.tick_time.specs.declared.times.Time.{Time}
use Rattle.otio_model.specs.declared.compositions.Listed.{Listed}
use Rattle.otio_model.specs.declared.compositions.ItemOf.{ItemOf}
use Rattle.otio_model.specs.declared.compositions.StackOf.{StackOf}
use Rattle.otio_model.specs.declared.objects.Object.{Object}
use Rattle.otio_model.specs.declared.effect_types.Effect.{Effect}
use Rattle.otio_model.specs.declared.markers.Marker.{Marker}
use Rattle.otio_model.specs.declared.media.Media.{Media}
use Rattle.schema_rows.specs.declared.schemas.Schema.{Schema}
use Rattle.schema_rows.specs.declared.values.Value.{Value}
use Rattle.schema_rows.specs.declared.values.Value.TheVariants as V
use Rattle.schema_rows.specs.Rows as R
use Rattle.schema_rows.specs.Rows.{Row, RowKind}

-- the value is of the kind
abbrev pub IsOf : RowKind → Value → Type 0
IsOf (R.text default) value = (held : List ℕ) × (value ≡ V.Text held)
IsOf R.flag value = (held : Bool) × (value ≡ V.Flag held)
IsOf R.meta value = (held : List (List ℕ × Json)) × (value ≡ V.Meta held)
IsOf R.span value = (held : Option Span) × (value ≡ V.Span held)
IsOf R.time value = (held : Option Time) × (value ≡ V.Time held)
IsOf (R.number default) value = (held : ℤ) × (value ≡ V.Number held)
IsOf R.items value = (held : List (ItemOf Listed)) × (value ≡ V.Items held)
IsOf R.effects value = (held : List Effect) × (value ≡ V.Effects held)
IsOf R.markers value = (held : List Marker) × (value ≡ V.Markers held)
IsOf R.media value = (held : List (List ℕ × Media)) × (value ≡ V.Media held)
IsOf R.medium value = (held : Media) × (value ≡ V.Medium held)
IsOf R.stack value = (held : StackOf Listed) × (value ≡ V.Stack held)
IsOf R.objects value = (held : List Object) × (value ≡ V.Objects held)
IsOf R.rate value = (held : Rate) × (value ≡ V.Rate held)
IsOf R.numeral value = (held : Decimal) × (value ≡ V.Numeral held)

-- each value is of the kind of its row
abbrev pub HaveKinds : List Row → List Value → Type 0
HaveKinds [] values = values ≡ []
HaveKinds (row ∷ rows) values = (value : Value) × (behind : List Value) × (values ≡ value ∷ behind)
    × IsOf row.kind value × HaveKinds rows behind

-- the values of a range of time: its length and its start
abbrev pub AreOfRange : List Value → Type 0
AreOfRange values = (len start : Time)
    × (values ≡ V.Time (Some len) ∷ V.Time (Some start) ∷ [])

-- the values of a time: its rate and its number
abbrev pub AreOfTime : List Value → Type 0
AreOfTime values = (rate : Rate) × (decimal : Decimal)
    × (values ≡ V.Rate rate ∷ V.Numeral decimal ∷ [])

-- the schema is one of the family
abbrev pub IsAmong : List Schema → Schema → Type 0
IsAmong [] schema = ⊥
IsAmong (first ∷ family) schema = (schema ≡ first) ⊎ IsAmong family schema

-- the shape of a value: its kind without a default
pub data Shape : Type 0 where
  text : Shape
  flag : Shape
  meta : Shape
  span : Shape
  time : Shape
  number : Shape
  items : Shape
  effects : Shape
  markers : Shape
  media : Shape
  medium : Shape
  stack : Shape
  objects : Shape
  rate : Shape
  numeral : Shape

abbrev pub shape_of : Value → Shape
shape_of (V.Text held) = text
shape_of (V.Flag held) = flag
shape_of (V.Meta held) = meta
shape_of (V.Span held) = span
shape_of (V.Time held) = time
shape_of (V.Number held) = number
shape_of (V.Items held) = items
shape_of (V.Effects held) = effects
shape_of (V.Markers held) = markers
shape_of (V.Media held) = media
shape_of (V.Medium held) = medium
shape_of (V.Stack held) = stack
shape_of (V.Objects held) = objects
shape_of (V.Rate held) = rate
shape_of (V.Numeral held) = numeral

abbrev pub kind_shape : RowKind → Shape
kind_shape (R.text default) = text
kind_shape R.flag = flag
kind_shape R.meta = meta
kind_shape R.span = span
kind_shape R.time = time
kind_shape (R.number default) = number
kind_shape R.items = items
kind_shape R.effects = effects
kind_shape R.markers = markers
kind_shape R.media = media
kind_shape R.medium = medium
kind_shape R.stack = stack
kind_shape R.objects = objects
kind_shape R.rate = rate
kind_shape R.numeral = numeral

-- the shapes of values, and those that rows have
abbrev pub shapes_of : List Value → List Shape
shapes_of values = map shape_of values

abbrev pub row_shapes : List Row → List Shape
row_shapes rows = map (λ (row : Row). kind_shape row.kind) rows

-- the shape of the first value
abbrev pub first_shape : List Value → Option Shape
first_shape [] = None
first_shape (value ∷ behind) = Some (shape_of value)
