-- Objects by their fields: the values of the rows of their schema's table, and their other members.
use Rattle.std.specs.Prelude.{[], ◌∷◌, Bool, true, false}
use Rattle.json_value.specs.declared.Json.{Json}
use Rattle.otio_model.specs.declared.compositions.Listed.{Listed}
use Rattle.otio_model.specs.declared.compositions.ItemOf.{ItemOf}
use Rattle.otio_model.specs.declared.compositions.ItemOf.TheVariants as I
use Rattle.otio_model.specs.declared.compositions.Clip.{Clip}
use Rattle.otio_model.specs.declared.compositions.Gap.{Gap}
use Rattle.otio_model.specs.declared.compositions.Transition.{Transition}
use Rattle.otio_model.specs.declared.compositions.StackOf.{StackOf}
use Rattle.otio_model.specs.declared.compositions.TrackOf.{TrackOf}
use Rattle.otio_model.specs.declared.timelines.Timeline.{Timeline}
use Rattle.otio_model.specs.declared.objects.Object.{Object, out-Object}
use Rattle.otio_model.specs.declared.objects.Object.TheOpen.{Object-F}
use Rattle.otio_model.specs.declared.objects.Collection.{Collection, out-Collection}
use Rattle.otio_model.specs.declared.effect_types.Effect.{Effect}
use Rattle.otio_model.specs.declared.effect_types.Effect.TheVariants as E
use Rattle.otio_model.specs.declared.effect_types.Warp.{Warp}
use Rattle.otio_model.specs.declared.effect_types.Freeze.{Freeze}
use Rattle.otio_model.specs.declared.effect_types.Plain.{Plain}
use Rattle.otio_model.specs.declared.markers.Marker.{Marker}
use Rattle.otio_model.specs.declared.markers.Marker.TheVariants as K
use Rattle.otio_model.specs.declared.markers.Mark.{Mark}
use Rattle.otio_model.specs.declared.media.Media.{Media}
use Rattle.otio_model.specs.declared.media.Media.TheVariants as M
use Rattle.otio_model.specs.declared.media.External.{External}
use Rattle.otio_model.specs.declared.media.Missing.{Missing}
use Rattle.otio_model.specs.declared.media.Generator.{Generator}
use Rattle.otio_model.specs.declared.media.Sequence.{Sequence}
use Rattle.otio_model.specs.Trees.{items_of}
use Rattle.schema_rows.specs.declared.schemas.Schema.{Schema}
use Rattle.schema_rows.specs.declared.schemas.Schema.TheVariants as S
use Rattle.schema_rows.specs.declared.values.Fields.{Fields}
use Rattle.schema_rows.specs.declared.values.Value.TheVariants as V

-- what a value in a list is read as: an object of a schema by its fields, or the value kept word
-- for word
pub data Reading : Type 0 where
  known : Fields → Reading
  kept : Json → Reading

abbrev pub timeline_fields : Timeline → Fields
timeline_fields t = record {
  schema = S.Timeline;
  values = V.Meta t.metadata ∷ V.Text t.name ∷ V.Time t.global_start_time ∷ V.Stack t.tracks ∷ [];
  rest = t.rest;
}

abbrev pub collection_fields : Collection → Fields
collection_fields collection =
    let c = out-Collection collection in record {
      schema = S.Collection;
      values = V.Meta c.metadata ∷ V.Text c.name ∷ V.Objects c.children ∷ [];
      rest = c.rest;
    }

abbrev pub stack_fields : StackOf Listed → Fields
stack_fields s = record {
  schema = S.Stack;
  values = V.Meta s.metadata ∷ V.Text s.name ∷ V.Span s.source_range ∷ V.Effects s.effects
      ∷ V.Markers s.markers ∷ V.Flag s.enabled ∷ V.Items (items_of s.children) ∷ [];
  rest = s.rest;
}

abbrev pub track_fields : TrackOf Listed → Fields
track_fields t = record {
  schema = S.Track;
  values = V.Meta t.metadata ∷ V.Text t.name ∷ V.Span t.source_range ∷ V.Effects t.effects
      ∷ V.Markers t.markers ∷ V.Flag t.enabled ∷ V.Items (items_of t.children) ∷ V.Text t.kind ∷ [];
  rest = t.rest;
}

abbrev pub clip_fields : Clip → Fields
clip_fields c = record {
  schema = S.Clip;
  values = V.Meta c.metadata ∷ V.Text c.name ∷ V.Span c.source_range ∷ V.Effects c.effects
      ∷ V.Markers c.markers ∷ V.Flag c.enabled ∷ V.Media c.media_references
      ∷ V.Text c.active_media_reference_key ∷ [];
  rest = c.rest;
}

abbrev pub gap_fields : Gap → Fields
gap_fields g = record {
  schema = S.Gap;
  values = V.Meta g.metadata ∷ V.Text g.name ∷ V.Span g.source_range ∷ V.Effects g.effects
      ∷ V.Markers g.markers ∷ V.Flag g.enabled ∷ [];
  rest = g.rest;
}

abbrev pub transition_fields : Transition → Fields
transition_fields t = record {
  schema = S.Transition;
  values = V.Meta t.metadata ∷ V.Text t.name ∷ V.Text t.transition_type ∷ V.Time t.in_offset
      ∷ V.Time t.out_offset ∷ [];
  rest = t.rest;
}

abbrev pub item_fields : ItemOf Listed → Fields
item_fields (I.Clip c) = clip_fields c
item_fields (I.Gap g) = gap_fields g
item_fields (I.Transition t) = transition_fields t
item_fields (I.Stack s) = stack_fields s
item_fields (I.Track t) = track_fields t

-- an object by what it is
abbrev pub object_layer : Object-F Object Collection → Fields
object_layer (Object-F.Timeline t) = timeline_fields t
object_layer (Object-F.Collection c) = collection_fields c
object_layer (Object-F.Item i) = item_fields i

abbrev pub object_fields : Object → Fields
object_fields object = object_layer (out-Object object)

abbrev pub warp_fields : Warp → Fields
warp_fields w = record {
  schema = S.Warp;
  values = V.Meta w.metadata ∷ V.Text w.name ∷ V.Text w.effect_name ∷ V.Number w.time_scalar ∷ [];
  rest = w.rest;
}

abbrev pub freeze_fields : Freeze → Fields
freeze_fields f = record {
  schema = S.Freeze;
  values = V.Meta f.metadata ∷ V.Text f.name ∷ V.Text f.effect_name ∷ V.Number f.time_scalar ∷ [];
  rest = f.rest;
}

-- the schema of an effect without a meaning in frames, by whether it is one of time
abbrev pub plain_schema : Bool → Schema
plain_schema true = S.TimeEffect
plain_schema false = S.Effect

abbrev pub plain_fields : Plain → Fields
plain_fields p = record {
  schema = plain_schema p.timed;
  values = V.Meta p.metadata ∷ V.Text p.name ∷ V.Text p.effect_name ∷ [];
  rest = p.rest;
}

abbrev pub effect_reading : Effect → Reading
effect_reading (E.Warp w) = known (warp_fields w)
effect_reading (E.Freeze f) = known (freeze_fields f)
effect_reading (E.Plain p) = known (plain_fields p)
effect_reading (E.Kept json) = kept json

abbrev pub mark_fields : Mark → Fields
mark_fields m = record {
  schema = S.Marker;
  values = V.Meta m.metadata ∷ V.Text m.name ∷ V.Span m.marked_range ∷ [];
  rest = m.rest;
}

abbrev pub marker_reading : Marker → Reading
marker_reading (K.Known m) = known (mark_fields m)
marker_reading (K.Kept json) = kept json

abbrev pub external_fields : External → Fields
external_fields e = record {
  schema = S.External;
  values = V.Meta e.metadata ∷ V.Text e.name ∷ V.Span e.available_range ∷ V.Text e.target_url ∷ [];
  rest = e.rest;
}

abbrev pub missing_fields : Missing → Fields
missing_fields m = record {
  schema = S.Missing;
  values = V.Meta m.metadata ∷ V.Text m.name ∷ V.Span m.available_range ∷ [];
  rest = m.rest;
}

abbrev pub generator_fields : Generator → Fields
generator_fields g = record {
  schema = S.Generator;
  values = V.Meta g.metadata ∷ V.Text g.name ∷ V.Span g.available_range ∷ V.Text g.generator_kind
      ∷ [];
  rest = g.rest;
}

abbrev pub images_fields : Sequence → Fields
images_fields s = record {
  schema = S.Images;
  values = V.Meta s.metadata ∷ V.Text s.name ∷ V.Span s.available_range ∷ V.Text s.target_url_base
      ∷ V.Text s.name_prefix ∷ V.Text s.name_suffix ∷ [];
  rest = s.rest;
}

abbrev pub medium_reading : Media → Reading
medium_reading (M.External e) = known (external_fields e)
medium_reading (M.Missing m) = known (missing_fields m)
medium_reading (M.Generator g) = known (generator_fields g)
medium_reading (M.Sequence s) = known (images_fields s)
medium_reading (M.Kept json) = kept json
