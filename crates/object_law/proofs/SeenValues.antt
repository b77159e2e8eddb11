-- Values and readings, with what a fold makes of each object in place of the object; and the objects, items and others, back from what is seen of them.
use Rattle.std.proofs.Common.{◌≡◌, ℕ, zero, suc, ℤ, pos, Bool, true, false, List, [], ◌∷◌, Option, Some, None, map, refl, sym, ap, ◌∙◌}
use Rattle.json_value.specs.declared.Json.{Json}
use Rattle.tick_time.specs.declared.decimals.Decimal.{Decimal}
use Rattle.tick_time.specs.declared.rates.Rate.{Rate}
use Rattle.tick_time.specs.declared.times.Time.{Time}
use Rattle.tick_time.specs.declared.spans.Span.{Span}
use Rattle.otio_model.specs.declared.compositions.Listed.{Listed}
use Rattle.otio_model.specs.declared.compositions.Listed.TheViews.{roll-out-Listed}
use Rattle.otio_model.specs.declared.compositions.ItemOf.{ItemOf}
use Rattle.otio_model.specs.declared.compositions.ItemOf.TheVariants as I
use Rattle.otio_model.specs.declared.compositions.StackOf.{StackOf}
use Rattle.otio_model.specs.declared.compositions.TrackOf.{TrackOf}
use Rattle.otio_model.specs.declared.timelines.Timeline.{Timeline}
use Rattle.otio_model.specs.declared.objects.Object.{Object, out-Object, fold-Object}
use Rattle.otio_model.specs.declared.objects.Object.TheOpen.{Object-F}
use Rattle.otio_model.specs.declared.objects.Object.TheViews.{roll-Object, roll-out-Object, roll-out-Collection}
use Rattle.otio_model.specs.declared.objects.Object.TheFolds.{fold-roll-Object, fold-roll-Collection}
use Rattle.otio_model.specs.declared.objects.Collection.{Collection, Collection-F, out-Collection, fold-Collection}
use Rattle.otio_model.specs.declared.effect_types.Effect.{Effect}
use Rattle.otio_model.specs.declared.effect_types.Effect.TheVariants as E
use Rattle.otio_model.specs.declared.effect_types.Plain.{Plain}
use Rattle.otio_model.specs.declared.markers.Marker.{Marker}
use Rattle.otio_model.specs.declared.markers.Marker.TheVariants as K
use Rattle.otio_model.specs.declared.media.Media.{Media}
use Rattle.otio_model.specs.declared.media.Media.TheVariants as M
use Rattle.otio_model.specs.Trees.{items_of, listed}
use Rattle.otio_model.specs.Timelines.{bare}
use Rattle.schema_rows.specs.declared.schemas.Schema.{Schema}
use Rattle.schema_rows.specs.declared.schemas.Schema.TheVariants as S
use Rattle.schema_rows.specs.declared.values.Fields.{Fields}
use Rattle.schema_rows.specs.declared.values.Value.{Value}
use Rattle.schema_rows.specs.declared.values.Value.TheVariants as V
use Rattle.schema_rows.specs.Readings.{Reading, known, kept, object_fields, object_layer, item_fields, stack_fields, plain_schema, effect_reading, marker_reading, medium_reading}

-- a fold over objects that sets the memory that a timeline keeps to spare aside
pub record Folded : Type 1 where
  pub A : Type 0
  pub B : Type 0
  pub object : Object-F A B → A
  pub collection : Collection-F A B → B
  pub spare : (t : Timeline) → object (Object-F.Timeline t) ≡ object (Object-F.Timeline (bare t))

-- what the fold makes of an object
abbrev pub of_object : (φ : Folded) → Object → φ.A
of_object φ = fold-Object φ.A φ.B φ.object φ.collection

-- a value, what is made of its objects being known
pub data View (A : Type 0) : Type 0 where
  whole : Value → View A
  these : List A → View A

abbrev pub seen : (φ : Folded) → Value → View φ.A
seen φ (V.Text x) = whole (V.Text x)
seen φ (V.Flag x) = whole (V.Flag x)
seen φ (V.Meta x) = whole (V.Meta x)
seen φ (V.Span x) = whole (V.Span x)
seen φ (V.Time x) = whole (V.Time x)
seen φ (V.Number x) = whole (V.Number x)
seen φ (V.Items x) = whole (V.Items x)
seen φ (V.Effects x) = whole (V.Effects x)
seen φ (V.Markers x) = whole (V.Markers x)
seen φ (V.Media x) = whole (V.Media x)
seen φ (V.Medium x) = whole (V.Medium x)
seen φ (V.Stack x) = whole (V.Stack x)
seen φ (V.Objects x) = these (map (of_object φ) x)
seen φ (V.Rate x) = whole (V.Rate x)
seen φ (V.Numeral x) = whole (V.Numeral x)

-- fields and readings
pub record Sight (A : Type 0) : Type 0 where
  pub schema : Schema
  pub views : List (View A)
  pub rest : List (List ℕ × Json)

abbrev pub seen_fields : (φ : Folded) → Fields → Sight φ.A
seen_fields φ f = record { schema = f.schema; views = map (seen φ) f.values; rest = f.rest }

pub data Glance (A : Type 0) : Type 0 where
  known_as : Sight A → Glance A
  kept_as : Json → Glance A

abbrev pub seen_reading : (φ : Folded) → Reading → Glance φ.A
seen_reading φ (known f) = known_as (seen_fields φ f)
seen_reading φ (kept json) = kept_as json

-- what stands in a view
abbrev pub at : {A : Type 0} → ℕ → List (View A) → View A
at n [] = whole (V.Flag false)
at zero (v ∷ vs) = v
at (suc n) (v ∷ vs) = at n vs

abbrev text_in : {A : Type 0} → View A → List ℕ
text_in (whole (V.Text x)) = x
text_in _ = []

abbrev flag_in : {A : Type 0} → View A → Bool
flag_in (whole (V.Flag x)) = x
flag_in _ = false

abbrev meta_in : {A : Type 0} → View A → List (List ℕ × Json)
meta_in (whole (V.Meta x)) = x
meta_in _ = []

abbrev pub span_in : {A : Type 0} → View A → Option Span
span_in (whole (V.Span x)) = x
span_in _ = None

abbrev pub time_in : {A : Type 0} → View A → Option Time
time_in (whole (V.Time x)) = x
time_in _ = None

abbrev number_in : {A : Type 0} → View A → ℤ
number_in (whole (V.Number x)) = x
number_in _ = pos 0

abbrev items_in : {A : Type 0} → View A → List (ItemOf Listed)
items_in (whole (V.Items x)) = x
items_in _ = []

abbrev effects_in : {A : Type 0} → View A → List Effect
effects_in (whole (V.Effects x)) = x
effects_in _ = []

abbrev markers_in : {A : Type 0} → View A → List Marker
markers_in (whole (V.Markers x)) = x
markers_in _ = []

abbrev media_in : {A : Type 0} → View A → List (List ℕ × Media)
media_in (whole (V.Media x)) = x
media_in _ = []

abbrev pub rate_in : {A : Type 0} → View A → Option Rate
rate_in (whole (V.Rate x)) = Some x
rate_in _ = None

abbrev pub numeral_in : {A : Type 0} → View A → Option Decimal
numeral_in (whole (V.Numeral x)) = Some x
numeral_in _ = None

abbrev objects_in : {A : Type 0} → View A → List A
objects_in (whole x) = []
objects_in (these x) = x

abbrev pub stack_from : {A : Type 0} → Sight A → StackOf Listed
stack_from s = record {
  metadata = meta_in (at 0 s.views);
  name = text_in (at 1 s.views);
  source_range = span_in (at 2 s.views);
  children = listed (items_in (at 6 s.views));
  effects = effects_in (at 3 s.views);
  markers = markers_in (at 4 s.views);
  enabled = flag_in (at 5 s.views);
  rest = s.rest;
}

abbrev stack_in : {A : Type 0} → View A → StackOf Listed
stack_in (whole (V.Stack x)) = x
stack_in v = stack_from (record { schema = S.Stack; views = v ∷ []; rest = [] })

abbrev track_from : {A : Type 0} → Sight A → TrackOf Listed
track_from s = record {
  metadata = meta_in (at 0 s.views);
  name = text_in (at 1 s.views);
  source_range = span_in (at 2 s.views);
  children = listed (items_in (at 6 s.views));
  kind = text_in (at 7 s.views);
  effects = effects_in (at 3 s.views);
  markers = markers_in (at 4 s.views);
  enabled = flag_in (at 5 s.views);
  rest = s.rest;
}

abbrev item_by : {A : Type 0} → Schema → Sight A → ItemOf Listed
item_by S.Clip s = I.Clip (record {
  metadata = meta_in (at 0 s.views);
  name = text_in (at 1 s.views);
  source_range = span_in (at 2 s.views);
  media_references = media_in (at 6 s.views);
  active_media_reference_key = text_in (at 7 s.views);
  effects = effects_in (at 3 s.views);
  markers = markers_in (at 4 s.views);
  enabled = flag_in (at 5 s.views);
  rest = s.rest;
})
item_by S.Transition s = I.Transition (record {
  metadata = meta_in (at 0 s.views);
  name = text_in (at 1 s.views);
  transition_type = text_in (at 2 s.views);
  in_offset = time_in (at 3 s.views);
  out_offset = time_in (at 4 s.views);
  rest = s.rest;
})
item_by S.Stack s = I.Stack (stack_from s)
item_by S.Track s = I.Track (track_from s)
item_by _ s = I.Gap (record {
  metadata = meta_in (at 0 s.views);
  name = text_in (at 1 s.views);
  source_range = span_in (at 2 s.views);
  rest = s.rest;
  effects = effects_in (at 3 s.views);
  markers = markers_in (at 4 s.views);
  enabled = flag_in (at 5 s.views);
})

abbrev item_of_sight : {A : Type 0} → Sight A → ItemOf Listed
item_of_sight s = item_by s.schema s

abbrev pub item_back : {A : Type 0} → Glance A → ItemOf Listed
item_back {A} (known_as s) = item_of_sight s
item_back {A} (kept_as json) = item_of_sight {A = A} (record { schema = S.Gap; views = []; rest = [] })

listed_back : (l : Listed) → listed (items_of l) ≡ l
listed_back l = roll-out-Listed l

pub stack_is : (φ : Folded) (s : StackOf Listed) → stack_from (seen_fields φ (stack_fields s)) ≡ s
stack_is φ s = ap (λ (l : Listed). record s { children = l }) (listed_back s.children)

pub item_is : (φ : Folded) (i : ItemOf Listed) → item_back (seen_reading φ (known (item_fields i))) ≡ i
item_is φ (I.Clip c) = refl
item_is φ (I.Gap g) = refl
item_is φ (I.Transition t) = refl
item_is φ (I.Stack s) = ap (λ (l : Listed). I.Stack (record s { children = l })) (listed_back s.children)
item_is φ (I.Track t) = ap (λ (l : Listed). I.Track (record t { children = l })) (listed_back t.children)

abbrev plain_by : {A : Type 0} → Bool → Sight A → Effect
plain_by timed s = E.Plain (record { metadata = meta_in (at 0 s.views); name = text_in (at 1 s.views); effect_name = text_in (at 2 s.views); timed = timed; rest = s.rest })

abbrev effect_by : {A : Type 0} → Schema → Sight A → Effect
effect_by S.Warp s = E.Warp (record { metadata = meta_in (at 0 s.views); name = text_in (at 1 s.views); effect_name = text_in (at 2 s.views); time_scalar = number_in (at 3 s.views); rest = s.rest })
effect_by S.Freeze s = E.Freeze (record { metadata = meta_in (at 0 s.views); name = text_in (at 1 s.views); effect_name = text_in (at 2 s.views); time_scalar = number_in (at 3 s.views); rest = s.rest })
effect_by S.TimeEffect s = plain_by true s
effect_by _ s = plain_by false s

abbrev pub effect_back : {A : Type 0} → Glance A → Effect
effect_back (known_as s) = effect_by s.schema s
effect_back (kept_as json) = E.Kept json

plain_is : (φ : Folded) (p : Plain) (timed : Bool)
    → effect_back (seen_reading φ (known (record { schema = plain_schema timed; values = V.Meta p.metadata ∷ V.Text p.name ∷ V.Text p.effect_name ∷ []; rest = p.rest }))) ≡ E.Plain (record p { timed = timed })
plain_is φ p true = refl
plain_is φ p false = refl

pub effect_is : (φ : Folded) (e : Effect) → effect_back (seen_reading φ (effect_reading e)) ≡ e
effect_is φ (E.Warp w) = refl
effect_is φ (E.Freeze f) = refl
effect_is φ (E.Plain p) = plain_is φ p p.timed
effect_is φ (E.Kept json) = refl

abbrev pub marker_back : {A : Type 0} → Glance A → Marker
marker_back (known_as s) = K.Known (record { metadata = meta_in (at 0 s.views); name = text_in (at 1 s.views); marked_range = span_in (at 2 s.views); rest = s.rest })
marker_back (kept_as json) = K.Kept json

pub marker_is : (φ : Folded) (m : Marker) → marker_back (seen_reading φ (marker_reading m)) ≡ m
marker_is φ (K.Known m) = refl
marker_is φ (K.Kept json) = refl

abbrev medium_by : {A : Type 0} → Schema → Sight A → Media
medium_by S.External s = M.External (record { metadata = meta_in (at 0 s.views); name = text_in (at 1 s.views); available_range = span_in (at 2 s.views); target_url = text_in (at 3 s.views); rest = s.rest })
medium_by S.Generator s = M.Generator (record { metadata = meta_in (at 0 s.views); name = text_in (at 1 s.views); available_range = span_in (at 2 s.views); generator_kind = text_in (at 3 s.views); rest = s.rest })
medium_by S.Images s = M.Sequence (record {
  metadata = meta_in (at 0 s.views);
  name = text_in (at 1 s.views);
  available_range = span_in (at 2 s.views);
  target_url_base = text_in (at 3 s.views);
  name_prefix = text_in (at 4 s.views);
  name_suffix = text_in (at 5 s.views);
  rest = s.rest;
})
medium_by _ s = M.Missing (record { metadata = meta_in (at 0 s.views); name = text_in (at 1 s.views); available_range = span_in (at 2 s.views); rest = s.rest })

abbrev pub medium_back : {A : Type 0} → Glance A → Media
medium_back (known_as s) = medium_by s.schema s
medium_back (kept_as json) = M.Kept json

pub medium_is : (φ : Folded) (m : Media) → medium_back (seen_reading φ (medium_reading m)) ≡ m
medium_is φ (M.External e) = refl
medium_is φ (M.Missing m) = refl
medium_is φ (M.Generator g) = refl
medium_is φ (M.Sequence s) = refl
medium_is φ (M.Kept json) = refl

-- what the fold makes of an object, from what is seen of it
abbrev object_by : (φ : Folded) → Schema → Sight φ.A → φ.A
object_by φ S.Timeline s = φ.object (Object-F.Timeline (record {
  metadata = meta_in (at 0 s.views);
  name = text_in (at 1 s.views);
  global_start_time = time_in (at 2 s.views);
  tracks = stack_in (at 3 s.views);
  rest = s.rest;
  spare = record { room = 0; taken = 0; loose = 0 };
}))
object_by φ S.Collection s = φ.object (Object-F.Collection (φ.collection (record { metadata = meta_in (at 0 s.views); name = text_in (at 1 s.views); children = objects_in (at 2 s.views); rest = s.rest })))
object_by φ schema s = φ.object (Object-F.Item (item_by schema s))

abbrev pub object_back : (φ : Folded) → Glance φ.A → φ.A
object_back φ (known_as s) = object_by φ s.schema s
object_back φ (kept_as json) = object_by φ S.Gap (record { schema = S.Gap; views = []; rest = [] })

-- one level of the fold
collection_level : (φ : Folded) (c : Collection) → fold-Collection φ.A φ.B φ.object φ.collection c ≡ φ.collection (record {
  metadata = (out-Collection c).metadata;
  name = (out-Collection c).name;
  children = map (of_object φ) (out-Collection c).children;
  rest = (out-Collection c).rest;
})
collection_level φ c =
    ap (fold-Collection φ.A φ.B φ.object φ.collection) (sym (roll-out-Collection c)) ∙ fold-roll-Collection φ.A φ.B φ.object φ.collection (out-Collection c)

item_made : (φ : Folded) (i : ItemOf Listed) → object_back φ (seen_reading φ (known (item_fields i))) ≡ φ.object (Object-F.Item i)
item_made φ (I.Clip c) = refl
item_made φ (I.Gap g) = refl
item_made φ (I.Transition t) = refl
item_made φ (I.Stack s) = ap (λ (i : ItemOf Listed). φ.object (Object-F.Item i)) (item_is φ (I.Stack s))
item_made φ (I.Track t) = ap (λ (i : ItemOf Listed). φ.object (Object-F.Item i)) (item_is φ (I.Track t))

layer_made : (φ : Folded) (layer : Object-F Object Collection) → object_back φ (seen_reading φ (known (object_layer layer))) ≡ of_object φ (roll-Object layer)
layer_made φ (Object-F.Timeline t) = sym (φ.spare t) ∙ sym (fold-roll-Object φ.A φ.B φ.object φ.collection (Object-F.Timeline t))
layer_made φ (Object-F.Collection c) =
    ap (λ (b : φ.B). φ.object (Object-F.Collection b)) (sym (collection_level φ c)) ∙ sym (fold-roll-Object φ.A φ.B φ.object φ.collection (Object-F.Collection c))
layer_made φ (Object-F.Item i) = item_made φ i ∙ sym (fold-roll-Object φ.A φ.B φ.object φ.collection (Object-F.Item i))

pub object_is : (φ : Folded) (o : Object) → object_back φ (seen_reading φ (known (object_fields o))) ≡ of_object φ o
object_is φ o = layer_made φ (out-Object o) ∙ ap (of_object φ) (roll-out-Object o)

abbrev pub stack_back : {A : Type 0} → Glance A → StackOf Listed
stack_back (known_as s) = stack_from s
stack_back {A} (kept_as json) = stack_from {A = A} (record { schema = S.Gap; views = []; rest = [] })
