-- What a JSON value gives, by the kind of the row, by what is asked and by the list.
use Rattle.std.proofs.Common.{◌≡◌, ◌≢◌, ◌⊎◌, inl, inr, ℕ, ℤ, Bool, List, [], ◌∷◌, Some, map, sym, subst}
use Rattle.sequences.specs.Pairs.{names_of}
use Rattle.json_value.specs.declared.Json.{Json}
use Rattle.json_value.specs.declared.Json.TheVariants as J
use Rattle.tick_time.specs.declared.decimals.Decimal.{Decimal}
use Rattle.tick_time.specs.declared.rates.Rate.{Rate}
use Rattle.tick_time.specs.declared.times.Time.{Time}
use Rattle.tick_time.specs.declared.spans.Span.{Span}
use Rattle.tick_time.specs.Decimals.{millionths, IsHalfEven}
use Rattle.tick_time.specs.Rates.{GivesRate}
use Rattle.tick_time.specs.Sums.{IsTimeOf}
use Rattle.tick_time.specs.Times.{IsSpeed}
use Rattle.otio_model.specs.declared.compositions.Listed.{Listed}
use Rattle.otio_model.specs.declared.compositions.ItemOf.{ItemOf}
use Rattle.otio_model.specs.declared.compositions.StackOf.{StackOf}
use Rattle.otio_model.specs.declared.objects.Object.{Object}
use Rattle.otio_model.specs.declared.effect_types.Effect.{Effect}
use Rattle.otio_model.specs.declared.markers.Marker.{Marker}
use Rattle.otio_model.specs.declared.media.Media.{Media}
use Rattle.schema_rows.specs.Rows as R
use Rattle.schema_rows.specs.Rows.{Row, RowKind}
use Rattle.schema_rows.specs.declared.schemas.TheConstants as C
use Rattle.schema_rows.specs.declared.values.Fields.{Fields}
use Rattle.schema_rows.specs.declared.values.Value.{Value}
use Rattle.schema_rows.specs.declared.values.Value.TheVariants as V
use Rattle.schema_rows.specs.Schemas.{IsForeign}
use Rattle.schema_rows.specs.Numerals.{IsSpelled, value_of_decimal}
use Rattle.schema_rows.specs.Readings.{Reading, known, kept, stack_fields, item_fields, object_fields, effect_reading, marker_reading, medium_reading, missing_fields}
use Rattle.schema_rows.specs.Defaults.{empty_missing}
use Rattle.schema_rows.specs.Families.{Want, child, member, medium}
use Rattle.schema_rows.specs.Stands as G
use Rattle.schema_rows.specs.Stands.{Gives, Gives_row, Gives_rows, Gives_fields, Gives_reading, Gives_all}

abbrev pub Given : RowKind → Json → Value → Type 0
Given (R.text default) json v = (characters : List ℕ) × (json ≡ J.Str characters) × (v ≡ V.Text characters)
Given R.flag json v = (truth : Bool) × (json ≡ J.Bool truth) × (v ≡ V.Flag truth)
Given R.meta json v = (members : List (List ℕ × Json)) × (json ≡ J.Map members) × (v ≡ V.Meta members)
Given R.span json v = (fields : Fields) × (span : Span) × Gives_fields C.RANGES json fields × (fields.values ≡ V.Time (Some span.len) ∷ V.Time (Some span.start) ∷ []) × (v ≡ V.Span (Some span))
Given R.time json v = (fields : Fields) × (rate : Rate) × (decimal : Decimal) × (time : Time) × Gives_fields C.TIMES json fields
    × (fields.values ≡ V.Rate rate ∷ V.Numeral decimal ∷ []) × IsTimeOf (value_of_decimal decimal) rate time × (v ≡ V.Time (Some time))
Given (R.number default) json v = (numeral : List ℕ) × (decimal : Decimal) × (speed : ℤ) × (json ≡ J.Num numeral) × IsSpelled numeral decimal
    × IsHalfEven (millionths (value_of_decimal decimal)) speed × IsSpeed speed × (v ≡ V.Number speed)
Given R.items json v = (list : List Json) × (items : List (ItemOf Listed)) × (json ≡ J.List list) × Gives_all (child C.ITEMS) list (map (λ item. known (item_fields item)) items) × (v ≡ V.Items items)
Given R.effects json v = (list : List Json) × (effects : List Effect) × (json ≡ J.List list) × Gives_all (member C.EFFECTS) list (map effect_reading effects) × (v ≡ V.Effects effects)
Given R.markers json v = (list : List Json) × (markers : List Marker) × (json ≡ J.List list) × Gives_all (member C.MARKERS) list (map marker_reading markers) × (v ≡ V.Markers markers)
Given R.media json v = (members : List (List ℕ × Json)) × (media : List (List ℕ × Media)) × (json ≡ J.Map members) × (names_of members ≡ names_of media)
    × Gives_all medium (map (λ member. member.1) members) (map (λ member. medium_reading member.1) media) × (v ≡ V.Media media)
Given R.medium json v = (reference : Media) × Gives_reading medium json (medium_reading reference) × (v ≡ V.Medium reference)
Given R.stack json v = (stack : StackOf Listed) × Gives_fields C.STACKS json (stack_fields stack) × (v ≡ V.Stack stack)
Given R.objects json v = (list : List Json) × (objects : List Object) × (json ≡ J.List list) × Gives_all (child C.ROOTS) list (map (λ object. known (object_fields object)) objects)
    × (v ≡ V.Objects objects)
Given R.rate json v = (numeral : List ℕ) × (decimal : Decimal) × (rate : Rate) × (json ≡ J.Num numeral) × IsSpelled numeral decimal
    × GivesRate (value_of_decimal decimal) rate.num rate.den × (v ≡ V.Rate rate)
Given R.numeral json v = (numeral : List ℕ) × (decimal : Decimal) × (json ≡ J.Num numeral) × IsSpelled numeral decimal × (v ≡ V.Numeral decimal)

as_kind : (k l : RowKind) (json : Json) (v : Value) → k ≡ l → Given l json v → Given k json v
as_kind k l json v e = subst (λ (x : RowKind). Given x json v) (sym e)

pub given : {k : RowKind} {json : Json} {v : Value} → Gives k json v → Given k json v
given (G.text kind json value default characters ek ej ev) = as_kind kind (R.text default) json value ek (characters, ej, ev)
given (G.flag kind json value truth ek ej ev) = as_kind kind R.flag json value ek (truth, ej, ev)
given (G.meta kind json value members ek ej ev) = as_kind kind R.meta json value ek (members, ej, ev)
given (G.span kind json value fields span ek g ef ev) = as_kind kind R.span json value ek (fields, span, g, ef, ev)
given (G.time kind json value fields rate decimal time ek g ef is ev) = as_kind kind R.time json value ek (fields, rate, decimal, time, g, ef, is, ev)
given (G.number kind json value default numeral decimal speed ek ej spelled nearest fits ev) = as_kind kind (R.number default) json value ek (numeral, decimal, speed, ej, spelled, nearest, fits, ev)
given (G.rate kind json value numeral decimal rate ek ej spelled gives ev) = as_kind kind R.rate json value ek (numeral, decimal, rate, ej, spelled, gives, ev)
given (G.numeral kind json value numeral decimal ek ej spelled ev) = as_kind kind R.numeral json value ek (numeral, decimal, ej, spelled, ev)
given (G.items kind json value list items ek ej g ev) = as_kind kind R.items json value ek (list, items, ej, g, ev)
given (G.objects kind json value list objects ek ej g ev) = as_kind kind R.objects json value ek (list, objects, ej, g, ev)
given (G.effects kind json value list effects ek ej g ev) = as_kind kind R.effects json value ek (list, effects, ej, g, ev)
given (G.markers kind json value list markers ek ej g ev) = as_kind kind R.markers json value ek (list, markers, ej, g, ev)
given (G.media kind json value members media ek ej en g ev) = as_kind kind R.media json value ek (members, media, ej, en, g, ev)
given (G.one_medium kind json value reference ek g ev) = as_kind kind R.medium json value ek (reference, g, ev)
given (G.stack kind json value stack ek g ev) = as_kind kind R.stack json value ek (stack, g, ev)

pub given_as : (k l : RowKind) (json : Json) (v : Value) → k ≡ l → Gives k json v → Given l json v
given_as k l json v e h = subst (λ (x : RowKind). Given x json v) e (given h)

-- by what is asked
abbrev pub Read : Want → Json → Reading → Type 0
Read (child family) json r = (fields : Fields) × (r ≡ known fields) × Gives_fields family json fields
Read (member family) json r = ((fields : Fields) × (r ≡ known fields) × Gives_fields family json fields) ⊎ ((r ≡ kept json) × IsForeign family json)
Read medium json r = ((json ≡ J.Null) × (r ≡ known (missing_fields empty_missing))) ⊎ ((json ≢ J.Null) × Gives_reading (member C.MEDIA) json r)

as_want : (w u : Want) (json : Json) (r : Reading) → w ≡ u → Read u json r → Read w json r
as_want w u json r e = subst (λ (x : Want). Read x json r) (sym e)

pub read : {w : Want} {json : Json} {r : Reading} → Gives_reading w json r → Read w json r
read (G.as_child want json reading family fields ew er g) = as_want want (child family) json reading ew (fields, er, g)
read (G.as_member want json reading family fields ew er g) = as_want want (member family) json reading ew (inl (fields, er, g))
read (G.as_kept want json reading family ew er foreign) = as_want want (member family) json reading ew (inr (er, foreign))
read (G.as_missing want json reading ew ej er) = as_want want medium json reading ew (inl (ej, er))
read (G.as_medium want json reading ew some g) = as_want want medium json reading ew (inr (some, g))

pub read_as : (w u : Want) (json : Json) (r : Reading) → w ≡ u → Gives_reading w json r → Read u json r
read_as w u json r e h = subst (λ (x : Want). Read x json r) e (read h)

-- by the list of what is read
abbrev pub ReadAll : Want → List Json → List Reading → Type 0
ReadAll want [] rs = rs ≡ []
ReadAll want (json ∷ others) rs = (r : Reading) × (behind : List Reading) × (rs ≡ r ∷ behind) × Gives_reading want json r × Gives_all want others behind

pub read_all : {w : Want} {list : List Json} {rs : List Reading} → Gives_all w list rs → ReadAll w list rs
read_all (G.no_more want list rs el er) = subst (λ (x : List Json). ReadAll want x rs) (sym el) er
read_all (G.one_more want list rs json others r behind el er g more) = subst (λ (x : List Json). ReadAll want x rs) (sym el) (r, behind, er, g, more)

pub read_all_as : (w : Want) (list xs : List Json) (rs : List Reading) → list ≡ xs → Gives_all w list rs → ReadAll w xs rs
read_all_as w list xs rs e h = subst (λ (x : List Json). ReadAll w x rs) e (read_all h)

-- by the list of rows
abbrev pub RowsGiven : List Row → List (List ℕ × Json) → List Value → Type 0
RowsGiven [] members vs = vs ≡ []
RowsGiven (row ∷ below) members vs = (v : Value) × (behind : List Value) × (vs ≡ v ∷ behind) × Gives_row row members v × Gives_rows below members behind

pub rows_given : {rows : List Row} {members : List (List ℕ × Json)} {vs : List Value} → Gives_rows rows members vs → RowsGiven rows members vs
rows_given (G.no_rows rows members vs er ev) = subst (λ (x : List Row). RowsGiven x members vs) (sym er) ev
rows_given (G.more_rows rows members vs row below v behind er ev g more) = subst (λ (x : List Row). RowsGiven x members vs) (sym er) (v, behind, ev, g, more)

pub rows_given_as : (rows xs : List Row) (members : List (List ℕ × Json)) (vs : List Value) → rows ≡ xs → Gives_rows rows members vs → RowsGiven xs members vs
rows_given_as rows xs members vs e h = subst (λ (x : List Row). RowsGiven x members vs) e (rows_given h)
