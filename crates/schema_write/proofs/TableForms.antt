-- The written form of each object is that of its schema's table.
use Rattle.std.proofs.Common.{◌≡◌, ℕ, pos, Bool, true, false, List, [], ◌∷◌, ◌++◌, refl, sym, ap, ap₂, ◌∙◌, arith}
use Rattle.std.specs.Prelude.{codes}
use Rattle.std.proofs.lemmas.Fmt.{decimal_digit}
use Rattle.tick_time.specs.Numerals.{minus}
use Rattle.tick_time.proofs.Places.{places_none}
use Rattle.json_value.specs.declared.Json.{Json, Bool as JsonOfBool, Num, Str, List as JsonOfList, Map}
use Rattle.otio_model.specs.declared.compositions.Listed.{Listed}
use Rattle.otio_model.specs.declared.compositions.ItemOf.{ItemOf}
use Rattle.otio_model.specs.declared.compositions.ItemOf.TheVariants.{Clip, Gap, Transition, Stack, Track}
use Rattle.otio_model.specs.declared.compositions.StackOf.{StackOf}
use Rattle.otio_model.specs.declared.compositions.TrackOf.{TrackOf}
use Rattle.otio_model.specs.declared.objects.Object.{Object, out-Object}
use Rattle.otio_model.specs.declared.objects.Object.TheOpen.{Object-F}
use Rattle.otio_model.specs.declared.objects.Object.TheViews.{roll-Object, roll-out-Object}
use Rattle.otio_model.specs.declared.objects.Object.TheFolds.{fold-roll-Object}
use Rattle.otio_model.specs.declared.objects.Collection.{Collection}
use Rattle.otio_model.specs.declared.effect_types.Effect.{Effect}
use Rattle.otio_model.specs.declared.effect_types.Effect.TheVariants as E
use Rattle.otio_model.specs.declared.effect_types.Plain.{Plain}
use Rattle.otio_model.specs.declared.markers.Marker.{Marker}
use Rattle.otio_model.specs.declared.markers.Marker.TheVariants as K
use Rattle.otio_model.specs.declared.media.Media.{Media}
use Rattle.otio_model.specs.declared.media.Media.TheVariants as M
use Rattle.schema_rows.specs.declared.schemas.Schema.TheVariants as S
use Rattle.schema_rows.specs.Readings.{stack_fields, track_fields, item_fields, object_fields, object_layer, plain_fields, effect_reading, marker_reading, medium_reading}
use Rattle.schema_write.specs.Texts.{decimal_text}
use Rattle.schema_write.specs.Written.{written}
use Rattle.schema_write.specs.Objects.{span_json, effects_json, newer, markers_json, stack_by, track_by, children_json, item_json, effect_json, plain_json, marker_json, medium_json, json_of, object_step, collection_step}
use Rattle.schema_write.specs.Tables.{fields_json, reading_json}
use Rattle.schema_write.proofs.Trees.{children_are, collection_is}

-- a stack, whose children are its items
pub stack_tabled : (s : StackOf Listed) → stack_by newer children_json s ≡ fields_json (stack_fields s)
stack_tabled s = ap (λ (list : List Json). written S.Stack (
    Map s.metadata ∷ Str s.name ∷ span_json s.source_range ∷ effects_json s.effects ∷ markers_json s.markers ∷ JsonOfBool s.enabled ∷ JsonOfList list ∷ []) s.rest) (children_are newer s.children)

-- a track, whose children are its items
pub track_tabled : (t : TrackOf Listed) → track_by newer children_json t ≡ fields_json (track_fields t)
track_tabled t = ap (λ (list : List Json). written S.Track (
    Map t.metadata ∷ Str t.name ∷ span_json t.source_range ∷ effects_json t.effects ∷ markers_json t.markers ∷ JsonOfBool t.enabled ∷ JsonOfList list ∷ Str t.kind ∷ []) t.rest) (children_are newer t.children)

pub item_tabled : (item : ItemOf Listed) → item_json item ≡ fields_json (item_fields item)
item_tabled (Clip c) = refl
item_tabled (Gap g) = refl
item_tabled (Transition t) = refl
item_tabled (Stack s) = stack_tabled s
item_tabled (Track t) = track_tabled t

-- the text of the speed 0
pub zero_text : decimal_text (pos 0) ≡ codes "0.0"
zero_text = ap₂ (λ (w d : List ℕ). ((minus false ++ w) ++ 46 ∷ []) ++ d) (decimal_digit 0 (omega arith)) places_none

-- an effect without a meaning in frames, by whether it is one of time
plain_tabled : (p : Plain) (timed : Bool) → p.timed ≡ timed → plain_json p ≡ fields_json (plain_fields p)
plain_tabled p true e = rw e refl
plain_tabled p false e = rw e refl

pub effect_tabled : (effect : Effect) → effect_json effect ≡ reading_json (effect_reading effect)
effect_tabled (E.Warp w) = refl
effect_tabled (E.Freeze f) = ap (λ (text : List ℕ). written S.Freeze (Map f.metadata ∷ Str f.name ∷ Str f.effect_name ∷ Num text ∷ []) f.rest) (sym zero_text)
effect_tabled (E.Plain p) = plain_tabled p p.timed refl
effect_tabled (E.Kept json) = refl

pub marker_tabled : (marker : Marker) → marker_json marker ≡ reading_json (marker_reading marker)
marker_tabled (K.Known m) = refl
marker_tabled (K.Kept json) = refl

pub medium_tabled : (medium : Media) → medium_json medium ≡ reading_json (medium_reading medium)
medium_tabled (M.External e) = refl
medium_tabled (M.Missing m) = refl
medium_tabled (M.Generator g) = refl
medium_tabled (M.Sequence s) = refl
medium_tabled (M.Kept json) = refl

-- an object by what it is
layer_tabled : (layer : Object-F Object Collection) → json_of (roll-Object layer) ≡ fields_json (object_layer layer)
layer_tabled (Object-F.Timeline t) = fold-roll-Object Json Json (object_step newer) collection_step (Object-F.Timeline t)
layer_tabled (Object-F.Collection c) = fold-roll-Object Json Json (object_step newer) collection_step (Object-F.Collection c) ∙ collection_is newer c
layer_tabled (Object-F.Item i) = fold-roll-Object Json Json (object_step newer) collection_step (Object-F.Item i) ∙ item_tabled i

pub object_tabled : (object : Object) → json_of object ≡ fields_json (object_fields object)
object_tabled object = ap json_of (sym (roll-out-Object object)) ∙ layer_tabled (out-Object object)
