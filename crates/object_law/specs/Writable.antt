-- Objects that are written so that they are read again: other members have no row's name, values
-- that are kept are none of the schemas of their place and are upgraded, speeds are speeds, and
-- transitions stand where they may.
use Rattle.std.specs.Prelude.{◌≡◌, ◌≢◌, ℕ, pos, false, List, [], ◌∷◌}
use Rattle.std.specs.List.{list_any}
use Rattle.json_value.specs.declared.Json.{Json}
use Rattle.json_value.specs.declared.Json.TheVariants.{Null}
use Rattle.tick_time.specs.Times.{IsSpeed}
use Rattle.otio_model.specs.declared.compositions.Listed.{Listed}
use Rattle.otio_model.specs.declared.compositions.ItemOf.{ItemOf}
use Rattle.otio_model.specs.declared.compositions.ItemOf.TheVariants as I
use Rattle.otio_model.specs.declared.compositions.Clip.{Clip}
use Rattle.otio_model.specs.declared.compositions.Gap.{Gap}
use Rattle.otio_model.specs.declared.compositions.Transition.{Transition}
use Rattle.otio_model.specs.declared.compositions.StackOf.{StackOf}
use Rattle.otio_model.specs.declared.compositions.TrackOf.{TrackOf}
use Rattle.otio_model.specs.declared.timelines.Timeline.{Timeline}
use Rattle.otio_model.specs.declared.objects.Object.{Object, out-Object}
use Rattle.otio_model.specs.declared.objects.Object.TheOpen.{Object-F}
use Rattle.otio_model.specs.declared.objects.Collection.{Collection, out-Collection}
use Rattle.otio_model.specs.declared.effect_types.Effect.{Effect}
use Rattle.otio_model.specs.declared.effect_types.Effect.TheVariants as E
use Rattle.otio_model.specs.declared.markers.Marker.{Marker}
use Rattle.otio_model.specs.declared.markers.Marker.TheVariants as K
use Rattle.otio_model.specs.declared.media.Media.{Media}
use Rattle.otio_model.specs.declared.media.Media.TheVariants as M
use Rattle.otio_model.specs.Trees.{items_of, is_transition}
use Rattle.schema_rows.specs.declared.schemas.Schema.{Schema}
use Rattle.schema_rows.specs.declared.schemas.Schema.TheVariants as S
use Rattle.schema_rows.specs.declared.schemas.TheConstants as C
use Rattle.schema_rows.specs.Schemas.{rows_of, IsForeign}
use Rattle.schema_rows.specs.Readings.{plain_schema}
use Rattle.otio_model.specs.Misplaced.{side_by_side, is_negative}
use Rattle.schema_rows.specs.Families.{others}
use Rattle.schema_up.specs.Upgrades.{upgraded}

-- an upgrade leaves the value as it is: no old name or version is left in it
abbrev pub IsUpgraded : Json → Type 0
IsUpgraded json = upgraded json ≡ json

-- none of the members has the name of a row of the schema, or that of the schema's member
abbrev pub AreOthers : Schema → List (List ℕ × Json) → Type 0
AreOthers schema rest = rest ≡ others (rows_of schema) rest

-- a freeze frame has the speed 0; an effect that was kept is none of the schemas of effects
abbrev pub IsEffect : Effect → Type 0
IsEffect (E.Warp w) = IsSpeed w.time_scalar × AreOthers S.Warp w.rest
IsEffect (E.Freeze f) = (f.time_scalar ≡ pos 0) × AreOthers S.Freeze f.rest
IsEffect (E.Plain p) = AreOthers (plain_schema p.timed) p.rest
IsEffect (E.Kept json) = IsForeign C.EFFECTS json

abbrev pub AreEffects : List Effect → Type 0
AreEffects [] = Unit {0}
AreEffects (effect ∷ effects) = IsEffect effect × AreEffects effects

-- a marker that was kept is none of the schema of markers, and upgraded
abbrev pub IsMarker : Marker → Type 0
IsMarker (K.Known m) = AreOthers S.Marker m.rest
IsMarker (K.Kept json) = IsForeign C.MARKERS json × IsUpgraded json

abbrev pub AreMarkers : List Marker → Type 0
AreMarkers [] = Unit {0}
AreMarkers (marker ∷ markers) = IsMarker marker × AreMarkers markers

-- a medium that was kept is none of the schemas of media, nor null, and upgraded
abbrev pub IsMedium : Media → Type 0
IsMedium (M.External e) = AreOthers S.External e.rest
IsMedium (M.Missing m) = AreOthers S.Missing m.rest
IsMedium (M.Generator g) = AreOthers S.Generator g.rest
IsMedium (M.Sequence s) = AreOthers S.Images s.rest
IsMedium (M.Kept json) = (json ≢ Null) × IsForeign C.MEDIA json × IsUpgraded json

abbrev pub AreMedia : List (List ℕ × Media) → Type 0
AreMedia [] = Unit {0}
AreMedia (member ∷ media) = IsMedium member.1 × AreMedia media

abbrev pub IsClip : Clip → Type 0
IsClip c = AreOthers S.Clip c.rest × AreEffects c.effects × AreMarkers c.markers
    × AreMedia c.media_references

abbrev pub IsGap : Gap → Type 0
IsGap g = AreOthers S.Gap g.rest × AreEffects g.effects × AreMarkers g.markers

-- no offset is negative
abbrev pub IsTransition : Transition → Type 0
IsTransition t = AreOthers S.Transition t.rest × (is_negative t.in_offset ≡ false)
    × (is_negative t.out_offset ≡ false)

mutual
  pub data IsItem : ItemOf Listed → Type 0 where
    clip : (item : ItemOf Listed) (c : Clip) → item ≡ I.Clip c → IsClip c → IsItem item
    gap : (item : ItemOf Listed) (g : Gap) → item ≡ I.Gap g → IsGap g → IsItem item
    transition : (item : ItemOf Listed) (t : Transition) → item ≡ I.Transition t → IsTransition t
        → IsItem item
    stack : (item : ItemOf Listed) (s : StackOf Listed) → item ≡ I.Stack s → IsStack s → IsItem item
    track : (item : ItemOf Listed) (t : TrackOf Listed) → item ≡ I.Track t → IsTrack t → IsItem item

  -- no child of a stack is a transition
  pub data IsStack : StackOf Listed → Type 0 where
    stack_of : (s : StackOf Listed) → AreOthers S.Stack s.rest → AreEffects s.effects
        → AreMarkers s.markers → list_any is_transition (items_of s.children) ≡ false
        → AreItems (items_of s.children) → IsStack s

  -- no two transitions stand side by side in a track
  pub data IsTrack : TrackOf Listed → Type 0 where
    track_of : (t : TrackOf Listed) → AreOthers S.Track t.rest → AreEffects t.effects
        → AreMarkers t.markers → side_by_side (items_of t.children) ≡ false
        → AreItems (items_of t.children) → IsTrack t

  pub data AreItems : List (ItemOf Listed) → Type 0 where
    no_items : (items : List (ItemOf Listed)) → items ≡ [] → AreItems items
    more_items : (items : List (ItemOf Listed)) (item : ItemOf Listed)
        (behind : List (ItemOf Listed)) → items ≡ item ∷ behind → IsItem item → AreItems behind
        → AreItems items

abbrev pub IsTimeline : Timeline → Type 0
IsTimeline t = AreOthers S.Timeline t.rest × IsStack t.tracks

mutual
  pub data IsObject : Object → Type 0 where
    timeline : (object : Object) (t : Timeline) → out-Object object ≡ Object-F.Timeline t
        → IsTimeline t → IsObject object
    collection : (object : Object) (c : Collection) → out-Object object ≡ Object-F.Collection c
        → AreOthers S.Collection (out-Collection c).rest → AreObjects (out-Collection c).children
        → IsObject object
    item : (object : Object) (i : ItemOf Listed) → out-Object object ≡ Object-F.Item i → IsItem i
        → IsObject object

  pub data AreObjects : List Object → Type 0 where
    no_objects : (objects : List Object) → objects ≡ [] → AreObjects objects
    more_objects : (objects : List Object) (object : Object) (behind : List Object)
        → objects ≡ object ∷ behind → IsObject object → AreObjects behind → AreObjects objects
