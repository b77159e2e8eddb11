-- Objects of OpenTimelineIO in JSON, by the tables of their schemas.
use Rattle.std.specs.Prelude.{ℕ, List, [], ◌∷◌, Option, Some, None, map, codes}
use Rattle.json_value.specs.declared.Json.{Json, Null, Bool as JsonOfBool, Num, Str, List as JsonOfList, Map}
use Rattle.tick_time.specs.declared.times.Time.{Time}
use Rattle.tick_time.specs.declared.spans.Span.{Span}
use Rattle.otio_model.specs.declared.compositions.Listed.{Listed, fold-Listed}
use Rattle.otio_model.specs.declared.compositions.Listed.TheOpen.{Listed-F}
use Rattle.otio_model.specs.declared.compositions.ItemOf.{ItemOf}
use Rattle.otio_model.specs.declared.compositions.ItemOf.TheVariants as I
use Rattle.otio_model.specs.declared.compositions.Clip.{Clip}
use Rattle.otio_model.specs.declared.compositions.Gap.{Gap}
use Rattle.otio_model.specs.declared.compositions.Transition.{Transition}
use Rattle.otio_model.specs.declared.compositions.StackOf.{StackOf}
use Rattle.otio_model.specs.declared.compositions.TrackOf.{TrackOf}
use Rattle.otio_model.specs.declared.timelines.Timeline.{Timeline}
use Rattle.otio_model.specs.declared.objects.Object.{Object, fold-Object}
use Rattle.otio_model.specs.declared.objects.Object.TheOpen.{Object-F}
use Rattle.otio_model.specs.declared.objects.Collection.{Collection, Collection-F, out-Collection}
use Rattle.otio_model.specs.declared.effect_types.Effect.{Effect}
use Rattle.otio_model.specs.declared.effect_types.Effect.TheVariants as E
use Rattle.otio_model.specs.declared.effect_types.Warp.{Warp}
use Rattle.otio_model.specs.declared.effect_types.Freeze.{Freeze}
use Rattle.otio_model.specs.declared.effect_types.Plain.{Plain}
use Rattle.otio_model.specs.declared.markers.Marker.{Marker}
use Rattle.otio_model.specs.declared.markers.Marker.TheVariants as K
use Rattle.otio_model.specs.declared.markers.Mark.{Mark}
use Rattle.otio_model.specs.declared.media.Media.{Media}
use Rattle.otio_model.specs.declared.media.Media.TheVariants as M
use Rattle.otio_model.specs.declared.media.External.{External}
use Rattle.otio_model.specs.declared.media.Missing.{Missing}
use Rattle.otio_model.specs.declared.media.Generator.{Generator}
use Rattle.otio_model.specs.declared.media.Sequence.{Sequence}
use Rattle.schema_rows.specs.declared.schemas.Schema.TheVariants as S
use Rattle.schema_rows.specs.Readings.{plain_schema}
use Rattle.schema_write.specs.Texts.{decimal_text, rate_text, value_text}
use Rattle.schema_write.specs.Written.{written, written_old}

-- RationalTime.1
abbrev pub time_json : Time → Json
time_json time = written S.RationalTime (Num (rate_text time.rate) ∷ Num (value_text time) ∷ []) []

-- a time, or null
abbrev pub offset_json : Option Time → Json
offset_json None = Null
offset_json (Some time) = time_json time

-- TimeRange.1
abbrev pub range_json : Span → Json
range_json span = written S.TimeRange (time_json span.len ∷ time_json span.start ∷ []) []

-- a range, or null
abbrev pub span_json : Option Span → Json
span_json None = Null
span_json (Some span) = range_json span

-- LinearTimeWarp.1
abbrev pub warp_json : Warp → Json
warp_json w =
    written S.Warp (Map w.metadata ∷ Str w.name ∷ Str w.effect_name
    ∷ Num (decimal_text w.time_scalar) ∷ []) w.rest

-- FreezeFrame.1, whose speed is 0 whatever its field holds
abbrev pub freeze_json : Freeze → Json
freeze_json f =
    written S.Freeze (Map f.metadata ∷ Str f.name ∷ Str f.effect_name ∷ Num (codes "0.0")
    ∷ []) f.rest

-- TimeEffect.1 or Effect.1
abbrev pub plain_json : Plain → Json
plain_json p =
    written (plain_schema p.timed) (Map p.metadata ∷ Str p.name ∷ Str p.effect_name ∷ []) p.rest

abbrev pub effect_json : Effect → Json
effect_json (E.Warp w) = warp_json w
effect_json (E.Freeze f) = freeze_json f
effect_json (E.Plain p) = plain_json p
effect_json (E.Kept json) = json

-- Marker.2
abbrev pub mark_json : Mark → Json
mark_json m = written S.Marker (Map m.metadata ∷ Str m.name ∷ span_json m.marked_range ∷ []) m.rest

-- Marker.1: the range under its old name
abbrev pub old_mark_json : Mark → Json
old_mark_json m =
    written_old S.FirstMarker (Map m.metadata ∷ Str m.name ∷ span_json m.marked_range ∷ []) m.rest

-- a marker, known ones by this function
abbrev pub marker_by : (Mark → Json) → Marker → Json
marker_by f (K.Known m) = f m
marker_by f (K.Kept json) = json

abbrev pub marker_json : Marker → Json
marker_json = marker_by mark_json

-- ExternalReference.1
abbrev pub external_json : External → Json
external_json e =
    written S.External (Map e.metadata ∷ Str e.name ∷ span_json e.available_range ∷ Str e.target_url
    ∷ []) e.rest

-- MissingReference.1
abbrev pub missing_json : Missing → Json
missing_json m =
    written S.Missing (Map m.metadata ∷ Str m.name ∷ span_json m.available_range ∷ []) m.rest

-- GeneratorReference.1
abbrev pub generator_json : Generator → Json
generator_json g =
    written S.Generator (Map g.metadata ∷ Str g.name ∷ span_json g.available_range
    ∷ Str g.generator_kind ∷ []) g.rest

-- ImageSequenceReference.1
abbrev pub images_json : Sequence → Json
images_json s =
    written S.Images (Map s.metadata ∷ Str s.name ∷ span_json s.available_range
    ∷ Str s.target_url_base ∷ Str s.name_prefix ∷ Str s.name_suffix ∷ []) s.rest

abbrev pub medium_json : Media → Json
medium_json (M.External e) = external_json e
medium_json (M.Missing m) = missing_json m
medium_json (M.Generator g) = generator_json g
medium_json (M.Sequence s) = images_json s
medium_json (M.Kept json) = json

-- media references under their keys
abbrev pub medium_pair : List ℕ × Media → List ℕ × Json
medium_pair medium = (medium.0, medium_json medium.1)

abbrev pub media_json : List (List ℕ × Media) → Json
media_json media = Map (map medium_pair media)

abbrev pub effects_json : List Effect → Json
effects_json effects = JsonOfList (map effect_json effects)

abbrev pub markers_by : (Mark → Json) → List Marker → Json
markers_by f markers = JsonOfList (map (marker_by f) markers)

abbrev pub markers_json : List Marker → Json
markers_json = markers_by mark_json

-- Clip.2
abbrev pub clip_json : Clip → Json
clip_json c = written S.Clip (
    Map c.metadata ∷ Str c.name ∷ span_json c.source_range ∷ effects_json c.effects
    ∷ markers_json c.markers ∷ JsonOfBool c.enabled
    ∷ media_json c.media_references ∷ Str c.active_media_reference_key ∷ []) c.rest

-- the reference of a `Clip.1`: the first of the references, or null where there is none
abbrev pub reference_json : List (List ℕ × Media) → Json
reference_json [] = Null
reference_json (medium ∷ more) = medium_json medium.1

-- Clip.1: one reference in place of the references and the active key
abbrev pub old_clip_json : Clip → Json
old_clip_json c = written_old S.FirstClip (
    Map c.metadata ∷ Str c.name ∷ span_json c.source_range ∷ effects_json c.effects
    ∷ markers_by old_mark_json c.markers ∷ JsonOfBool c.enabled
    ∷ reference_json c.media_references ∷ []) c.rest

-- how known markers and clips are written; all else is the same in both families
pub record Style : Type 0 where
  pub mark : Mark → Json
  pub clip : Clip → Json

-- Clip.2 and Marker.2, the newer family
abbrev pub newer : Style
newer = record { mark = mark_json; clip = clip_json }

-- Clip.1 and Marker.1, the older family
abbrev pub older : Style
older = record { mark = old_mark_json; clip = old_clip_json }

-- Gap.1
abbrev pub gap_in : Style → Gap → Json
gap_in style g = written S.Gap (
    Map g.metadata ∷ Str g.name ∷ span_json g.source_range ∷ effects_json g.effects
    ∷ markers_by style.mark g.markers ∷ JsonOfBool g.enabled ∷ []) g.rest

-- Transition.1
abbrev pub transition_json : Transition → Json
transition_json t =
    written S.Transition (Map t.metadata ∷ Str t.name ∷ Str t.transition_type
    ∷ offset_json t.in_offset ∷ offset_json t.out_offset ∷ []) t.rest

-- Stack.1, its children being known in JSON
abbrev pub stack_by : {C : Type 0} → Style → (C → List Json) → StackOf C → Json
stack_by style f s = written S.Stack (
    Map s.metadata ∷ Str s.name ∷ span_json s.source_range ∷ effects_json s.effects
    ∷ markers_by style.mark s.markers ∷ JsonOfBool s.enabled
    ∷ JsonOfList (f s.children) ∷ []) s.rest

-- Track.1, its children being known in JSON
abbrev pub track_by : {C : Type 0} → Style → (C → List Json) → TrackOf C → Json
track_by style f t = written S.Track (
    Map t.metadata ∷ Str t.name ∷ span_json t.source_range ∷ effects_json t.effects
    ∷ markers_by style.mark t.markers ∷ JsonOfBool t.enabled
    ∷ JsonOfList (f t.children) ∷ Str t.kind ∷ []) t.rest

-- an item, its children being known in JSON
abbrev pub item_by : {C : Type 0} → Style → (C → List Json) → ItemOf C → Json
item_by style f (I.Clip c) = style.clip c
item_by style f (I.Gap g) = gap_in style g
item_by style f (I.Transition t) = transition_json t
item_by style f (I.Stack s) = stack_by style f s
item_by style f (I.Track t) = track_by style f t

abbrev pub children_step : Style → Listed-F (List Json) → List Json
children_step style l = map (item_by style (λ values. values)) l.list

-- children in order
abbrev pub children_in : Style → Listed → List Json
children_in style = fold-Listed (List Json) (children_step style)

abbrev pub children_json : Listed → List Json
children_json = children_in newer

abbrev pub item_in : Style → ItemOf Listed → Json
item_in style = item_by style (children_in style)

abbrev pub item_json : ItemOf Listed → Json
item_json = item_in newer

-- Timeline.1
abbrev pub timeline_in : Style → Timeline → Json
timeline_in style t =
    written S.Timeline (Map t.metadata ∷ Str t.name ∷ offset_json t.global_start_time
    ∷ stack_by style (children_in style) t.tracks ∷ []) t.rest

abbrev pub timeline_json : Timeline → Json
timeline_json = timeline_in newer

-- an object, those in it being known in JSON
abbrev pub object_step : Style → Object-F Json Json → Json
object_step style (Object-F.Timeline t) = timeline_in style t
object_step style (Object-F.Collection json) = json
object_step style (Object-F.Item i) = item_in style i

-- SerializableCollection.1, the objects in it being known in JSON
abbrev pub collection_step : Collection-F Json Json → Json
collection_step c =
    written S.Collection (Map c.metadata ∷ Str c.name ∷ JsonOfList c.children ∷ []) c.rest

-- an object in JSON, in a style
abbrev pub object_in : Style → Object → Json
object_in style = fold-Object Json Json (object_step style) collection_step

-- an object in JSON
abbrev pub json_of : Object → Json
json_of = object_in newer

-- An object in JSON in the older family, where it has a form there (OpenTimelineIO's schema pages):
-- each clip is Clip.1, with its one reference in place of its references and active key, and each
-- known marker is Marker.1, with its range under the old name.
abbrev pub old_json_of : Object → Json
old_json_of = object_in older

-- a collection in JSON, by its objects
abbrev pub collection_in : Style → Collection → Json
collection_in style collection =
    let c = out-Collection collection in
    written S.Collection (Map c.metadata ∷ Str c.name
    ∷ JsonOfList (map (object_in style) c.children) ∷ []) c.rest
