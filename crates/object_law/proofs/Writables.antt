-- What is written of a writable object reads back as that object.
use Rattle.std.proofs.Common.{◌≡◌, ℕ, ℤ, pos, Bool, true, false, ◌||◌, List, [], ◌∷◌, map, Option, Some, None, refl, sym, ap, subst, arith}
use Rattle.std.specs.Prelude.{codes}
use Rattle.std.specs.List.{list_any}
use Rattle.std.proofs.lemmas.Int.{ints}
use Rattle.json_value.specs.declared.Json.{Json}
use Rattle.json_value.specs.declared.Json.TheVariants as J
use Rattle.tick_time.specs.declared.times.Time.{Time}
use Rattle.tick_time.specs.declared.spans.Span.{Span}
use Rattle.tick_time.specs.Times.{IsSpeed}
use Rattle.otio_model.specs.declared.compositions.Listed.{Listed}
use Rattle.otio_model.specs.declared.compositions.ItemOf.{ItemOf}
use Rattle.otio_model.specs.declared.compositions.ItemOf.TheVariants as I
use Rattle.otio_model.specs.declared.compositions.Clip.{Clip}
use Rattle.otio_model.specs.declared.compositions.Gap.{Gap}
use Rattle.otio_model.specs.declared.compositions.Transition.{Transition}
use Rattle.otio_model.specs.declared.compositions.StackOf.{StackOf}
use Rattle.otio_model.specs.declared.compositions.TrackOf.{TrackOf}
use Rattle.otio_model.specs.declared.timelines.Timeline.{Timeline}
use Rattle.otio_model.specs.declared.objects.Object.{Object, out-Object}
use Rattle.otio_model.specs.declared.objects.Object.TheOpen.{Object-F}
use Rattle.otio_model.specs.declared.objects.Collection.{Collection, out-Collection}
use Rattle.otio_model.specs.declared.effect_types.Effect.{Effect}
use Rattle.otio_model.specs.declared.effect_types.Effect.TheVariants as E
use Rattle.otio_model.specs.declared.markers.Marker.{Marker}
use Rattle.otio_model.specs.declared.markers.Marker.TheVariants as K
use Rattle.otio_model.specs.declared.media.Media.{Media}
use Rattle.otio_model.specs.declared.media.Media.TheVariants as M
use Rattle.otio_model.specs.Trees.{items_of, is_transition}
use Rattle.schema_rows.specs.Rows as R
use Rattle.schema_rows.specs.Rows.{Row, item_rows}
use Rattle.schema_rows.specs.declared.schemas.Schema.{Schema}
use Rattle.schema_rows.specs.declared.schemas.Schema.TheVariants as S
use Rattle.schema_rows.specs.declared.schemas.TheConstants as C
use Rattle.schema_rows.specs.declared.values.Value.{Value}
use Rattle.schema_rows.specs.declared.values.Value.TheVariants as V
use Rattle.schema_rows.specs.Schemas.{named, name_of}
use Rattle.schema_rows.specs.Readings.{known, kept, plain_schema, clip_fields, gap_fields, transition_fields, stack_fields, track_fields, item_fields, timeline_fields, collection_fields, object_layer, object_fields, warp_fields, freeze_fields, plain_fields, effect_reading, mark_fields, marker_reading, external_fields, missing_fields, generator_fields, images_fields, medium_reading}
use Rattle.otio_model.specs.Misplaced.{side_by_side, is_negative}
use Rattle.schema_rows.specs.Families.{child, member, medium}
use Rattle.schema_rows.specs.Stands as W
use Rattle.schema_rows.specs.Stands.{Gives_fields, Gives_reading, Gives_all, Stands}
use Rattle.schema_write.specs.Objects.{span_json, offset_json, range_json, time_json, effect_json, effects_json, marker_json, markers_json, medium_json, medium_pair, media_json, newer, clip_json, gap_in, transition_json, stack_by, track_by, children_json, item_json, json_of}
use Rattle.schema_write.specs.Tables.{fields_json}
use Rattle.schema_write.specs.Texts.{decimal_text}
use Rattle.schema_write.specs.Written.{written}
use Rattle.schema_write.proofs.Values.{media_names}
use Rattle.schema_write.proofs.TableForms.{zero_text, stack_tabled, track_tabled, item_tabled, object_tabled}
use Rattle.object_law.specs.Writable as Q
use Rattle.object_law.specs.Writable.{AreOthers, IsEffect, AreEffects, IsMarker, AreMarkers, IsMedium, AreMedia, IsClip, IsGap, IsTransition, IsItem, IsStack, IsTrack, AreItems, IsTimeline, IsObject, AreObjects}
use Rattle.object_law.proofs.FoundMembers.{Holds, HoldsAll, left_out}
use Rattle.object_law.proofs.NamedSchemas.{written_stands}
use Rattle.object_law.proofs.Leaves.{map_not_null, num_not_null, number_gives, time_gives, span_gives}
use Rattle.object_law.proofs.HeldValues.{list_not_null, held_as, meta_held, text_held, flag_held}

pub span_held : (row : Row) (span : Option Span) → row.kind ≡ R.span → row.need ≡ false → Holds row (span_json span) (V.Span span)
span_held row None k n = left_out refl (rw (n, k) refl)
span_held row (Some span) k n = held_as row R.span (range_json span) (V.Span (Some span)) k (map_not_null _) (span_gives span)

pub offset_held : (row : Row) (offset : Option Time) → row.kind ≡ R.time → row.need ≡ false → Holds row (offset_json offset) (V.Time offset)
offset_held row None k n = left_out refl (rw (n, k) refl)
offset_held row (Some time) k n = held_as row R.time (time_json time) (V.Time (Some time)) k (map_not_null _) (time_gives time)

pub speed_held : (row : Row) (default n : ℤ) → row.kind ≡ R.number default → IsSpeed n → Holds row (J.Num (decimal_text n)) (V.Number n)
speed_held row default n k h = held_as row (R.number default) (J.Num (decimal_text n)) (V.Number n) k (num_not_null _) (number_gives default n h)

zero_speed : IsSpeed (pos 0)
zero_speed = record { low = omega (arith, ints); high = omega (arith, ints) }

still_held : (row : Row) (default n : ℤ) → row.kind ≡ R.number default → n ≡ pos 0 → Holds row (J.Num (codes "0.0")) (V.Number n)
still_held row default n k e =
    let zero : Holds row (J.Num (codes "0.0")) (V.Number (pos 0)) = subst (λ (text : List ℕ). Holds row (J.Num text) (V.Number (pos 0))) zero_text (speed_held row default (pos 0) k zero_speed) in
    subst (λ (m : ℤ). Holds row (J.Num (codes "0.0")) (V.Number m)) (sym e) zero

plain_given : (timed : Bool) (metadata rest : List (List ℕ × Json)) (name effect_name : List ℕ) → AreOthers (plain_schema timed) rest
    → Gives_fields C.EFFECTS (written (plain_schema timed) (J.Map metadata ∷ J.Str name ∷ J.Str effect_name ∷ []) rest)
    (record { schema = plain_schema timed; values = V.Meta metadata ∷ V.Text name ∷ V.Text effect_name ∷ []; rest = rest })
plain_given true metadata rest name effect_name o =
    written_stands C.EFFECTS S.TimeEffect (J.Map metadata ∷ J.Str name ∷ J.Str effect_name ∷ []) (V.Meta metadata ∷ V.Text name ∷ V.Text effect_name ∷ []) rest refl
    (meta_held _ metadata refl, (text_held _ [] name refl, (text_held _ [] effect_name refl, tt))) refl refl o
plain_given false metadata rest name effect_name o =
    written_stands C.EFFECTS S.Effect (J.Map metadata ∷ J.Str name ∷ J.Str effect_name ∷ []) (V.Meta metadata ∷ V.Text name ∷ V.Text effect_name ∷ []) rest refl
    (meta_held _ metadata refl, (text_held _ [] name refl, (text_held _ [] effect_name refl, tt))) refl refl o

-- effects, markers and media as they are written
pub effect_given : (effect : Effect) → IsEffect effect → Gives_reading (member C.EFFECTS) (effect_json effect) (effect_reading effect)
effect_given (E.Warp w) h = W.as_member (member C.EFFECTS) _ _ C.EFFECTS (warp_fields w) refl refl
    (written_stands C.EFFECTS S.Warp (J.Map w.metadata ∷ J.Str w.name ∷ J.Str w.effect_name ∷ J.Num (decimal_text w.time_scalar) ∷ []) (V.Meta w.metadata ∷ V.Text w.name ∷ V.Text w.effect_name ∷ V.Number w.time_scalar ∷ []) w.rest refl
    (meta_held _ w.metadata refl, (text_held _ [] w.name refl, (text_held _ [] w.effect_name refl, (speed_held _ (pos 1000000) w.time_scalar refl h.0, tt)))) refl refl h.1)
effect_given (E.Freeze f) h = W.as_member (member C.EFFECTS) _ _ C.EFFECTS (freeze_fields f) refl refl
    (written_stands C.EFFECTS S.Freeze (J.Map f.metadata ∷ J.Str f.name ∷ J.Str f.effect_name ∷ J.Num (codes "0.0") ∷ []) (V.Meta f.metadata ∷ V.Text f.name ∷ V.Text f.effect_name ∷ V.Number f.time_scalar ∷ []) f.rest refl
    (meta_held _ f.metadata refl, (text_held _ [] f.name refl, (text_held _ [] f.effect_name refl, (still_held _ (pos 0) f.time_scalar refl h.0, tt)))) refl
    (ap (λ (n : ℤ). V.Meta f.metadata ∷ V.Text f.name ∷ V.Text f.effect_name ∷ V.Number n ∷ []) h.0) h.1)
effect_given (E.Plain p) h = W.as_member (member C.EFFECTS) _ _ C.EFFECTS (plain_fields p) refl refl (plain_given p.timed p.metadata p.rest p.name p.effect_name h)
effect_given (E.Kept json) h = W.as_kept (member C.EFFECTS) json (kept json) C.EFFECTS refl refl h

effects_given : (effects : List Effect) → AreEffects effects → Gives_all (member C.EFFECTS) (map effect_json effects) (map effect_reading effects)
effects_given [] h = W.no_more (member C.EFFECTS) [] [] refl refl
effects_given (effect ∷ effects) h =
    W.one_more (member C.EFFECTS) _ _ (effect_json effect) (map effect_json effects) (effect_reading effect) (map effect_reading effects) refl refl (effect_given effect h.0) (effects_given effects h.1)

pub effects_held : (row : Row) (effects : List Effect) → row.kind ≡ R.effects → AreEffects effects → Holds row (effects_json effects) (V.Effects effects)
effects_held row effects k h = held_as row R.effects (effects_json effects) (V.Effects effects) k (list_not_null _)
    (W.effects R.effects (effects_json effects) (V.Effects effects) (map effect_json effects) effects refl refl (effects_given effects h) refl)

pub marker_given : (marker : Marker) → IsMarker marker → Gives_reading (member C.MARKERS) (marker_json marker) (marker_reading marker)
marker_given (K.Known m) h = W.as_member (member C.MARKERS) _ _ C.MARKERS (mark_fields m) refl refl
    (written_stands C.MARKERS S.Marker (J.Map m.metadata ∷ J.Str m.name ∷ span_json m.marked_range ∷ []) (V.Meta m.metadata ∷ V.Text m.name ∷ V.Span m.marked_range ∷ []) m.rest refl
    (meta_held _ m.metadata refl, (text_held _ [] m.name refl, (span_held _ m.marked_range refl refl, tt))) refl refl h)
marker_given (K.Kept json) h = W.as_kept (member C.MARKERS) json (kept json) C.MARKERS refl refl h.0

pub markers_given : (markers : List Marker) → AreMarkers markers → Gives_all (member C.MARKERS) (map marker_json markers) (map marker_reading markers)
markers_given [] h = W.no_more (member C.MARKERS) [] [] refl refl
markers_given (marker ∷ markers) h =
    W.one_more (member C.MARKERS) _ _ (marker_json marker) (map marker_json markers) (marker_reading marker) (map marker_reading markers) refl refl (marker_given marker h.0) (markers_given markers h.1)

pub markers_held : (row : Row) (markers : List Marker) → row.kind ≡ R.markers → AreMarkers markers → Holds row (markers_json markers) (V.Markers markers)
markers_held row markers k h = held_as row R.markers (markers_json markers) (V.Markers markers) k (list_not_null _)
    (W.markers R.markers (markers_json markers) (V.Markers markers) (map marker_json markers) markers refl refl (markers_given markers h) refl)

pub medium_given : (m : Media) → IsMedium m → Gives_reading medium (medium_json m) (medium_reading m)
medium_given (M.External e) h = W.as_medium medium _ _ refl (map_not_null _) (W.as_member (member C.MEDIA) _ _ C.MEDIA (external_fields e) refl refl
    (written_stands C.MEDIA S.External (J.Map e.metadata ∷ J.Str e.name ∷ span_json e.available_range ∷ J.Str e.target_url ∷ []) (V.Meta e.metadata ∷ V.Text e.name ∷ V.Span e.available_range ∷ V.Text e.target_url ∷ []) e.rest refl
    (meta_held _ e.metadata refl, (text_held _ [] e.name refl, (span_held _ e.available_range refl refl, (text_held _ [] e.target_url refl, tt)))) refl refl h))
medium_given (M.Missing m) h = W.as_medium medium _ _ refl (map_not_null _) (W.as_member (member C.MEDIA) _ _ C.MEDIA (missing_fields m) refl refl
    (written_stands C.MEDIA S.Missing (J.Map m.metadata ∷ J.Str m.name ∷ span_json m.available_range ∷ []) (V.Meta m.metadata ∷ V.Text m.name ∷ V.Span m.available_range ∷ []) m.rest refl
    (meta_held _ m.metadata refl, (text_held _ [] m.name refl, (span_held _ m.available_range refl refl, tt))) refl refl h))
medium_given (M.Generator g) h = W.as_medium medium _ _ refl (map_not_null _) (W.as_member (member C.MEDIA) _ _ C.MEDIA (generator_fields g) refl refl
    (written_stands C.MEDIA S.Generator (J.Map g.metadata ∷ J.Str g.name ∷ span_json g.available_range ∷ J.Str g.generator_kind ∷ []) (V.Meta g.metadata ∷ V.Text g.name ∷ V.Span g.available_range ∷ V.Text g.generator_kind ∷ []) g.rest refl
    (meta_held _ g.metadata refl, (text_held _ [] g.name refl, (span_held _ g.available_range refl refl, (text_held _ [] g.generator_kind refl, tt)))) refl refl h))
medium_given (M.Sequence s) h = W.as_medium medium _ _ refl (map_not_null _) (W.as_member (member C.MEDIA) _ _ C.MEDIA (images_fields s) refl refl
    (written_stands C.MEDIA S.Images (J.Map s.metadata ∷ J.Str s.name ∷ span_json s.available_range ∷ J.Str s.target_url_base ∷ J.Str s.name_prefix ∷ J.Str s.name_suffix ∷ [])
    (V.Meta s.metadata ∷ V.Text s.name ∷ V.Span s.available_range ∷ V.Text s.target_url_base ∷ V.Text s.name_prefix ∷ V.Text s.name_suffix ∷ []) s.rest refl
    (meta_held _ s.metadata refl, (text_held _ [] s.name refl, (span_held _ s.available_range refl refl, (text_held _ [] s.target_url_base refl, (text_held _ [] s.name_prefix refl, (text_held _ [] s.name_suffix refl, tt)))))) refl refl h))
medium_given (M.Kept json) h = W.as_medium medium json (kept json) refl h.0 (W.as_kept (member C.MEDIA) json (kept json) C.MEDIA refl refl h.1)

media_given : (media : List (List ℕ × Media)) → AreMedia media → Gives_all medium (map (λ (m : List ℕ × Json). m.1) (map medium_pair media)) (map (λ m. medium_reading m.1) media)
media_given [] h = W.no_more medium [] [] refl refl
media_given (m ∷ media) h =
    W.one_more medium _ _ (medium_json m.1) (map (λ (m : List ℕ × Json). m.1) (map medium_pair media)) (medium_reading m.1) (map (λ m. medium_reading m.1) media) refl refl (medium_given m.1 h.0) (media_given media h.1)

pub media_held : (row : Row) (media : List (List ℕ × Media)) → row.kind ≡ R.media → AreMedia media → Holds row (media_json media) (V.Media media)
media_held row media k h = held_as row R.media (media_json media) (V.Media media) k (map_not_null _)
    (W.media R.media (media_json media) (V.Media media) (map medium_pair media) media refl refl (media_names media) (media_given media h) refl)

-- children as they are written
abbrev AreGiven : List (ItemOf Listed) → Type 0
AreGiven items = Gives_all (child C.ITEMS) (map item_json items) (map (λ item. known (item_fields item)) items)

pub items_held : (row : Row) (items : List (ItemOf Listed)) → row.kind ≡ R.items → AreGiven items → Holds row (J.List (map item_json items)) (V.Items items)
items_held row items k h = held_as row R.items (J.List (map item_json items)) (V.Items items) k (list_not_null _)
    (W.items R.items (J.List (map item_json items)) (V.Items items) (map item_json items) items refl refl h refl)

-- the rows that items with a range begin with, and the rows after them
pub shared_held : (metadata : List (List ℕ × Json)) (name : List ℕ) (range : Option Span) (effects : List Effect) (markers : List Marker) (enabled : Bool)
    (rows : List Row) (jsons : List Json) (values : List Value) → AreEffects effects → AreMarkers markers → HoldsAll rows jsons values
    → HoldsAll (item_rows rows) (J.Map metadata ∷ J.Str name ∷ span_json range ∷ effects_json effects ∷ markers_json markers ∷ J.Bool enabled ∷ jsons)
    (V.Meta metadata ∷ V.Text name ∷ V.Span range ∷ V.Effects effects ∷ V.Markers markers ∷ V.Flag enabled ∷ values)
shared_held metadata name range effects markers enabled rows jsons values e m more =
    (meta_held _ metadata refl, (text_held _ [] name refl, (span_held _ range refl refl, (effects_held _ effects refl e, (markers_held _ markers refl m, (flag_held _ enabled refl, more))))))

pub or_none : (a : Bool) → a ≡ false → (a || false) ≡ false
or_none a e = rw e refl

pub or_nones : (a b : Bool) → a ≡ false → b ≡ false → (a || (b || false)) ≡ false
or_nones a b e f = rw (e, f) refl

clip_given : (family : List Schema) → named (name_of S.Clip) family ≡ Some S.Clip → (c : Clip) → IsClip c → Gives_fields family (clip_json c) (clip_fields c)
clip_given family found c h =
    written_stands family S.Clip
    (J.Map c.metadata ∷ J.Str c.name ∷ span_json c.source_range ∷ effects_json c.effects ∷ markers_json c.markers ∷ J.Bool c.enabled ∷ media_json c.media_references ∷ J.Str c.active_media_reference_key ∷ [])
    (V.Meta c.metadata ∷ V.Text c.name ∷ V.Span c.source_range ∷ V.Effects c.effects ∷ V.Markers c.markers ∷ V.Flag c.enabled ∷ V.Media c.media_references ∷ V.Text c.active_media_reference_key ∷ []) c.rest found (
    shared_held c.metadata c.name c.source_range c.effects c.markers c.enabled
    (R.optional (codes "media_references") R.media ∷ R.optional (codes "active_media_reference_key") (R.text (codes "DEFAULT_MEDIA")) ∷ [])
    (media_json c.media_references ∷ J.Str c.active_media_reference_key ∷ []) (V.Media c.media_references ∷ V.Text c.active_media_reference_key ∷ []) h.1 h.2 (media_held _ c.media_references refl h.3, (text_held _ (codes "DEFAULT_MEDIA") c.active_media_reference_key refl, tt))) refl refl h.0

pub gap_given : (family : List Schema) → named (name_of S.Gap) family ≡ Some S.Gap → (g : Gap) → IsGap g → Gives_fields family (gap_in newer g) (gap_fields g)
gap_given family found g h =
    written_stands family S.Gap
    (J.Map g.metadata ∷ J.Str g.name ∷ span_json g.source_range ∷ effects_json g.effects ∷ markers_json g.markers ∷ J.Bool g.enabled ∷ [])
    (V.Meta g.metadata ∷ V.Text g.name ∷ V.Span g.source_range ∷ V.Effects g.effects ∷ V.Markers g.markers ∷ V.Flag g.enabled ∷ []) g.rest found
    (shared_held g.metadata g.name g.source_range g.effects g.markers g.enabled [] [] [] h.1 h.2 tt) refl refl h.0

pub transition_given : (family : List Schema) → named (name_of S.Transition) family ≡ Some S.Transition → (t : Transition) → IsTransition t → Gives_fields family (transition_json t) (transition_fields t)
transition_given family found t h =
    written_stands family S.Transition
    (J.Map t.metadata ∷ J.Str t.name ∷ J.Str t.transition_type ∷ offset_json t.in_offset ∷ offset_json t.out_offset ∷ [])
    (V.Meta t.metadata ∷ V.Text t.name ∷ V.Text t.transition_type ∷ V.Time t.in_offset ∷ V.Time t.out_offset ∷ []) t.rest found
    (meta_held _ t.metadata refl, (text_held _ [] t.name refl, (text_held _ (codes "SMPTE_Dissolve") t.transition_type refl, (offset_held _ t.in_offset refl refl, (offset_held _ t.out_offset refl refl, tt)))))
    (or_nones (is_negative t.in_offset) (is_negative t.out_offset) h.1 h.2) refl h.0

stack_given : (family : List Schema) → named (name_of S.Stack) family ≡ Some S.Stack → (s : StackOf Listed) → AreOthers S.Stack s.rest → AreEffects s.effects → AreMarkers s.markers
    → list_any is_transition (items_of s.children) ≡ false → AreGiven (items_of s.children) → Gives_fields family (stack_by newer children_json s) (stack_fields s)
stack_given family found s o effects markers none items =
    let stands : Gives_fields family (fields_json (stack_fields s)) (stack_fields s) =
    written_stands family S.Stack
    (J.Map s.metadata ∷ J.Str s.name ∷ span_json s.source_range ∷ effects_json s.effects ∷ markers_json s.markers ∷ J.Bool s.enabled ∷ J.List (map item_json (items_of s.children)) ∷ [])
    (V.Meta s.metadata ∷ V.Text s.name ∷ V.Span s.source_range ∷ V.Effects s.effects ∷ V.Markers s.markers ∷ V.Flag s.enabled ∷ V.Items (items_of s.children) ∷ []) s.rest found (
    shared_held s.metadata s.name s.source_range s.effects s.markers s.enabled
    (R.optional (codes "children") R.items ∷ [])
    (J.List (map item_json (items_of s.children)) ∷ []) (V.Items (items_of s.children) ∷ []) effects markers (items_held _ (items_of s.children) refl items, tt)) (or_none (list_any is_transition (items_of s.children)) none) refl o in
    subst (λ (json : Json). Gives_fields family json (stack_fields s)) (sym (stack_tabled s)) stands

track_given : (family : List Schema) → named (name_of S.Track) family ≡ Some S.Track → (t : TrackOf Listed) → AreOthers S.Track t.rest → AreEffects t.effects → AreMarkers t.markers
    → side_by_side (items_of t.children) ≡ false → AreGiven (items_of t.children) → Gives_fields family (track_by newer children_json t) (track_fields t)
track_given family found t o effects markers none items =
    let stands : Gives_fields family (fields_json (track_fields t)) (track_fields t) =
    written_stands family S.Track
    (J.Map t.metadata ∷ J.Str t.name ∷ span_json t.source_range ∷ effects_json t.effects ∷ markers_json t.markers ∷ J.Bool t.enabled ∷ J.List (map item_json (items_of t.children)) ∷ J.Str t.kind ∷ [])
    (V.Meta t.metadata ∷ V.Text t.name ∷ V.Span t.source_range ∷ V.Effects t.effects ∷ V.Markers t.markers ∷ V.Flag t.enabled ∷ V.Items (items_of t.children) ∷ V.Text t.kind ∷ []) t.rest found (
    shared_held t.metadata t.name t.source_range t.effects t.markers t.enabled
    (R.optional (codes "children") R.items ∷ R.optional (codes "kind") (R.text (codes "Video")) ∷ [])
    (J.List (map item_json (items_of t.children)) ∷ J.Str t.kind ∷ []) (V.Items (items_of t.children) ∷ V.Text t.kind ∷ []) effects markers (items_held _ (items_of t.children) refl items, (text_held _ (codes "Video") t.kind refl, tt))) (or_none (side_by_side (items_of t.children)) none) refl o in
    subst (λ (json : Json). Gives_fields family json (track_fields t)) (sym (track_tabled t)) stands

-- a family that has the schemas of items
pub record HasItems (family : List Schema) : Type 0 where
  pub clip : named (name_of S.Clip) family ≡ Some S.Clip
  pub gap : named (name_of S.Gap) family ≡ Some S.Gap
  pub transition : named (name_of S.Transition) family ≡ Some S.Transition
  pub stack : named (name_of S.Stack) family ≡ Some S.Stack
  pub track : named (name_of S.Track) family ≡ Some S.Track

pub among_items : HasItems C.ITEMS
among_items = record { clip = refl; gap = refl; transition = refl; stack = refl; track = refl }

pub among_roots : HasItems C.ROOTS
among_roots = record { clip = refl; gap = refl; transition = refl; stack = refl; track = refl }

item_as : (family : List Schema) (item i : ItemOf Listed) → item ≡ i → Gives_fields family (item_json i) (item_fields i) → Gives_fields family (item_json item) (item_fields item)
item_as family item i e h = subst (λ (x : ItemOf Listed). Gives_fields family (item_json x) (item_fields x)) (sym e) h

none_given : (items : List (ItemOf Listed)) → items ≡ [] → AreGiven items
none_given items e = subst AreGiven (sym e) (W.no_more (child C.ITEMS) [] [] refl refl)

more_given : (items : List (ItemOf Listed)) (item : ItemOf Listed) (behind : List (ItemOf Listed)) → items ≡ item ∷ behind → Gives_fields C.ITEMS (item_json item) (item_fields item) → AreGiven behind → AreGiven items
more_given items item behind e h hs = subst AreGiven (sym e)
    (W.one_more (child C.ITEMS) (map item_json (item ∷ behind)) (map (λ item. known (item_fields item)) (item ∷ behind)) (item_json item) (map item_json behind) (known (item_fields item))
    (map (λ item. known (item_fields item)) behind) refl refl (W.as_child (child C.ITEMS) (item_json item) (known (item_fields item)) C.ITEMS (item_fields item) refl refl h) hs)

mutual
  item_given : (item : ItemOf Listed) → IsItem item → (family : List Schema) → HasItems family → Gives_fields family (item_json item) (item_fields item)
  item_given item (Q.clip _ c e h) family has = item_as family item (I.Clip c) e (clip_given family has.clip c h)
  item_given item (Q.gap _ g e h) family has = item_as family item (I.Gap g) e (gap_given family has.gap g h)
  item_given item (Q.transition _ t e h) family has = item_as family item (I.Transition t) e (transition_given family has.transition t h)
  item_given item (Q.stack _ s e h) family has = item_as family item (I.Stack s) e (stack_whole s h family has.stack)
  item_given item (Q.track _ t e h) family has = item_as family item (I.Track t) e (track_whole t h family has.track)

  stack_whole : (s : StackOf Listed) → IsStack s → (family : List Schema) → named (name_of S.Stack) family ≡ Some S.Stack → Gives_fields family (stack_by newer children_json s) (stack_fields s)
  stack_whole s (Q.stack_of _ o effects markers none items) family found = stack_given family found s o effects markers none (items_given (items_of s.children) items)

  track_whole : (t : TrackOf Listed) → IsTrack t → (family : List Schema) → named (name_of S.Track) family ≡ Some S.Track → Gives_fields family (track_by newer children_json t) (track_fields t)
  track_whole t (Q.track_of _ o effects markers none items) family found = track_given family found t o effects markers none (items_given (items_of t.children) items)

  items_given : (items : List (ItemOf Listed)) → AreItems items → AreGiven items
  items_given items (Q.no_items _ e) = none_given items e
  items_given items (Q.more_items _ item behind e h hs) = more_given items item behind e (item_given item h C.ITEMS among_items) (items_given behind hs)

stack_held : (row : Row) (s : StackOf Listed) → row.kind ≡ R.stack → IsStack s → Holds row (stack_by newer children_json s) (V.Stack s)
stack_held row s k h = held_as row R.stack (stack_by newer children_json s) (V.Stack s) k (map_not_null _)
    (W.stack R.stack (stack_by newer children_json s) (V.Stack s) s refl (stack_whole s h C.STACKS refl) refl)

timeline_given : (t : Timeline) → IsTimeline t → Gives_fields C.ROOTS (fields_json (timeline_fields t)) (timeline_fields t)
timeline_given t h =
    written_stands C.ROOTS S.Timeline (J.Map t.metadata ∷ J.Str t.name ∷ offset_json t.global_start_time ∷ stack_by newer children_json t.tracks ∷ [])
    (V.Meta t.metadata ∷ V.Text t.name ∷ V.Time t.global_start_time ∷ V.Stack t.tracks ∷ []) t.rest refl
    (meta_held _ t.metadata refl, (text_held _ [] t.name refl, (offset_held _ t.global_start_time refl refl, (stack_held _ t.tracks refl h.1, tt)))) refl refl h.0

-- objects in a collection as they are written
abbrev AreGivenObjects : List Object → Type 0
AreGivenObjects objects = Gives_all (child C.ROOTS) (map json_of objects) (map (λ object. known (object_fields object)) objects)

collection_given : (c : Collection) → AreOthers S.Collection (out-Collection c).rest → AreGivenObjects (out-Collection c).children → Gives_fields C.ROOTS (fields_json (collection_fields c)) (collection_fields c)
collection_given c o objects =
    let inside : Holds (R.optional (codes "children") R.objects) (J.List (map json_of (out-Collection c).children)) (V.Objects (out-Collection c).children) =
    held_as (R.optional (codes "children") R.objects) R.objects (J.List (map json_of (out-Collection c).children)) (V.Objects (out-Collection c).children) refl (list_not_null _)
    (W.objects R.objects (J.List (map json_of (out-Collection c).children)) (V.Objects (out-Collection c).children) (map json_of (out-Collection c).children) (out-Collection c).children refl refl objects refl) in
    written_stands C.ROOTS S.Collection (J.Map (out-Collection c).metadata ∷ J.Str (out-Collection c).name ∷ J.List (map json_of (out-Collection c).children) ∷ [])
    (V.Meta (out-Collection c).metadata ∷ V.Text (out-Collection c).name ∷ V.Objects (out-Collection c).children ∷ []) (out-Collection c).rest refl
    (meta_held _ (out-Collection c).metadata refl, (text_held _ [] (out-Collection c).name refl, (inside, tt))) refl refl o

layer_given : (object : Object) (layer : Object-F Object Collection) → out-Object object ≡ layer → Gives_fields C.ROOTS (fields_json (object_layer layer)) (object_layer layer) → Stands (json_of object) object
layer_given object layer e h =
    let own : Gives_fields C.ROOTS (fields_json (object_fields object)) (object_fields object) =
    subst (λ (x : Object-F Object Collection). Gives_fields C.ROOTS (fields_json (object_layer x)) (object_layer x)) (sym e) h in
    subst (λ (json : Json). Gives_fields C.ROOTS json (object_fields object)) (sym (object_tabled object)) own

item_layer : (i : ItemOf Listed) → IsItem i → Gives_fields C.ROOTS (fields_json (item_fields i)) (item_fields i)
item_layer i h = subst (λ (json : Json). Gives_fields C.ROOTS json (item_fields i)) (item_tabled i) (item_given i h C.ROOTS among_roots)

no_object : (objects : List Object) → objects ≡ [] → AreGivenObjects objects
no_object objects e = subst AreGivenObjects (sym e) (W.no_more (child C.ROOTS) [] [] refl refl)

more_object : (objects : List Object) (object : Object) (behind : List Object) → objects ≡ object ∷ behind → Stands (json_of object) object → AreGivenObjects behind → AreGivenObjects objects
more_object objects object behind e h hs = subst AreGivenObjects (sym e)
    (W.one_more (child C.ROOTS) (map json_of (object ∷ behind)) (map (λ object. known (object_fields object)) (object ∷ behind)) (json_of object) (map json_of behind) (known (object_fields object))
    (map (λ object. known (object_fields object)) behind) refl refl (W.as_child (child C.ROOTS) (json_of object) (known (object_fields object)) C.ROOTS (object_fields object) refl refl h) hs)

mutual
  pub object_given : (object : Object) → IsObject object → Stands (json_of object) object
  object_given object (Q.timeline _ t e h) = layer_given object (Object-F.Timeline t) e (timeline_given t h)
  object_given object (Q.collection _ c e o objects) = layer_given object (Object-F.Collection c) e (collection_given c o (objects_given (out-Collection c).children objects))
  object_given object (Q.item _ i e h) = layer_given object (Object-F.Item i) e (item_layer i h)

  objects_given : (objects : List Object) → AreObjects objects → AreGivenObjects objects
  objects_given objects (Q.no_objects _ e) = no_object objects e
  objects_given objects (Q.more_objects _ object behind e h hs) = more_object objects object behind e (object_given object h) (objects_given behind hs)
