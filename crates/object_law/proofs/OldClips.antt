-- What is written of a writable marker, gap or clip in the older family, and upgraded, reads back as
-- that marker, gap or clip.
use Rattle.std.proofs.Common.{◌≡◌, ◌≢◌, ℕ, Bool, true, false, ◌||◌, cond, List, [], ◌∷◌, ◌++◌, map, not, Some, None, refl, sym, ap, ap₂, ◌∙◌, codes, subst, append-nil, ◌≤◌, arith}
use Rattle.std.specs.List.{list_any}
use Rattle.std.specs.Str.{bytes_eq}
use Rattle.std.proofs.lemmas.Bool.{false≢true, and_parts, or_parts}
use Rattle.std.proofs.lemmas.List.Elements.{filter-append}
use Rattle.json_value.specs.declared.Json.{Json, Str, Map, Null, Bool as JsonOfBool, List as JsonOfList, out-Json}
use Rattle.json_value.specs.declared.Json.TheOpen.{Json-F}
use Rattle.json_value.specs.declared.Json.TheViews.{roll-Json, roll-out-Json}
use Rattle.sequences.proofs.PairLemmas.{bytes_eq-sym}
use Rattle.sequences.specs.Pairs.{value_of, put}
use Rattle.otio_model.specs.declared.compositions.Clip.{Clip}
use Rattle.otio_model.specs.declared.compositions.Gap.{Gap}
use Rattle.otio_model.specs.declared.compositions.Transition.{Transition}
use Rattle.otio_model.specs.declared.markers.Marker.{Marker}
use Rattle.otio_model.specs.declared.markers.Marker.TheVariants as K
use Rattle.otio_model.specs.declared.markers.Mark.{Mark}
use Rattle.otio_model.specs.declared.media.Media.{Media}
use Rattle.otio_model.specs.declared.media.Media.TheVariants as M
use Rattle.schema_rows.specs.Rows as R
use Rattle.schema_rows.specs.Rows.{Row}
use Rattle.schema_rows.specs.declared.schemas.Schema.{Schema}
use Rattle.schema_rows.specs.declared.schemas.Schema.TheVariants as S
use Rattle.schema_up.specs.declared.old_names.Form.{Form}
use Rattle.schema_up.specs.declared.old_names.Form.TheVariants as F
use Rattle.schema_up.specs.declared.old_names.Row.TheVariants.{Kept, Object as ObjectRow, Objects}
use Rattle.schema_up.specs.Names.{schema_named}
use Rattle.schema_up.specs.UpgradeRows.{row_of}
use Rattle.schema_up.specs.Upgrades.{Pairs, upgraded, upgraded_at, items_at, pairs_at, renewed, without, medium_in, media_of, second_marker, second_clip}
use Rattle.schema_rows.specs.Schemas.{schema_key, rows_of, text_of, name_of, version_of, named}
use Rattle.schema_rows.specs.Families.{is_row, others}
use Rattle.schema_up.proofs.PutLemmas.{Lacks}
use Rattle.schema_up.proofs.Levels.{upgraded_at-Map, upgraded_at-List, kept_same}
use Rattle.schema_write.specs.Objects.{span_json, effects_json, mark_json, old_mark_json, marker_by, markers_by, marker_json, markers_json, medium_json, reference_json, old_clip_json, newer, older, gap_in, transition_json}
use Rattle.schema_write.specs.OldForms.{is_default, is_one_default, has_one_key, has_member, has_range, clip_fault, markers_fault}
use Rattle.schema_write.proofs.Distinct.{fixed, excludes_head}
use Rattle.object_law.specs.Writable.{AreOthers, AreMarkers, IsMedium, IsClip, IsGap}
use Rattle.std.proofs.lemmas.Slice.Eq.{bytes_eq-Decides}
use Rattle.schema_rows.specs.declared.values.Value.{Value}
use Rattle.schema_rows.specs.declared.values.Value.TheVariants as V
use Rattle.schema_rows.specs.Readings.{clip_fields}
use Rattle.schema_rows.specs.Stands as W
use Rattle.schema_rows.specs.Stands.{Gives_fields, Gives_rows}
use Rattle.schema_write.specs.declared.old_faults.OldFault.TheVariants.{Member}
use Rattle.object_law.specs.Writable.{AreMedia}
use Rattle.object_law.proofs.Leaves.{map_not_null}
use Rattle.object_law.proofs.FoundMembers.{HoldsAll, row_stands}
use Rattle.object_law.proofs.HeldValues.{text_held}
use Rattle.object_law.proofs.NamedSchemas.{schema_text}
use Rattle.object_law.proofs.Writables.{shared_held, media_held}
use Rattle.object_law.proofs.OldMembers.{schema_first, Stay, stay_same, object_becomes, value_lacks, without_lacks, put_lacks, put_end, lacks_by, others_stay, others_lack, where_not}

-- an object of a form that has no rows inside stays
pub other_same : (text : List ℕ) (ms : Pairs) → schema_named text ≡ F.Other
    → upgraded (Map ((schema_key, Str text) ∷ ms)) ≡ Map ((schema_key, Str text) ∷ ms)
other_same text ms is =
    let all = (schema_key, Str text) ∷ ms in
    upgraded_at-Map all ObjectRow
    ∙ ap (λ (f : Form). Map (renewed f (pairs_at ObjectRow f all))) (schema_first text ms ∙ is)
    ∙ ap Map (stay_same F.Other all (each_stays all))
  where
    each_stays : (ms : Pairs) → Stay F.Other ms
    each_stays [] = tt
    each_stays (m ∷ ms) = (refl, each_stays ms)

-- the medium of a clip
medium_same : (m : Media) → IsMedium m → upgraded (medium_json m) ≡ medium_json m
medium_same (M.External e) h = other_same (text_of S.External) _ refl
medium_same (M.Missing m) h = other_same (text_of S.Missing) _ refl
medium_same (M.Generator g) h = other_same (text_of S.Generator) _ refl
medium_same (M.Sequence s) h = other_same (text_of S.Images) _ refl
medium_same (M.Kept json) h = h.2

pub transition_same : (t : Transition) → upgraded (transition_json t) ≡ transition_json t
transition_same t = other_same (text_of S.Transition) _ refl

-- a marker
mark_lacks : (rest : Pairs) → AreOthers S.Marker rest → Lacks (codes "marked_range") rest
mark_lacks rest o = subst (Lacks (codes "marked_range")) (sym o)
    (others_lack (codes "marked_range") (rows_of S.Marker) rest
    (excludes_head (rows_of S.Marker)).1.1.1.0)

-- a table with one other row at its end: names that no row of the first has, and not that row
own_row : (front last : List Row) (own : Row) (name : List ℕ) → is_row (front ++ last) name ≡ false
    → bytes_eq own.name name ≡ false → is_row (front ++ own ∷ []) name ≡ false
own_row [] last own name h k = rw (bytes_eq-sym name own.name, k) refl
own_row (row ∷ front) last own name h k =
    let parts = or_parts (bytes_eq name row.name) (is_row (front ++ last) name) h in
    rw parts.0 (own_row front last own name parts.1 k)

own_fixed : (front last : List Row) (own : Row) (name : List ℕ) → fixed (front ++ last) name ≡ false
    → bytes_eq own.name name ≡ false → fixed (front ++ own ∷ []) name ≡ false
own_fixed front last own name h k =
    let parts = or_parts (bytes_eq name schema_key) (is_row (front ++ last) name) h in
    rw parts.0 (own_row front last own name parts.1 k)

-- other members that lack the name of that row stay in it
old_rest : (front last : List Row) (own : Row) (rest : Pairs) → Lacks own.name rest
    → others (front ++ own ∷ []) (others (front ++ last) rest) ≡ others (front ++ last) rest
old_rest front last own [] h = refl
old_rest front last own (m ∷ ms) h =
    by (fixed (front ++ last) m.0) refl (old_rest front last own ms h.1)
  where
    by : (t : Bool) → fixed (front ++ last) m.0 ≡ t
        → others (front ++ own ∷ []) (others (front ++ last) ms) ≡ others (front ++ last) ms
        → others (front ++ own ∷ []) (others (front ++ last) (m ∷ ms)) ≡ others (front ++ last) (m ∷ ms)
    by true e below = rw e below
    by false e below = rw (e, own_fixed front last own m.0 e h.0) (ap (λ (l : Pairs). m ∷ l) below)

first_stays : (ms : Pairs) → Stay F.FirstMarker ms
first_stays [] = tt
first_stays (m ∷ ms) = (refl, first_stays ms)

-- the members of a marker of the first version, renewed
marker_renewed : (m n span : Json) (rest : Pairs) → Lacks (codes "marked_range") rest
    → second_marker ((schema_key, Str (codes "Marker.1")) ∷ (codes "metadata", m)
    ∷ (codes "name", n) ∷ (codes "range", span) ∷ rest)
    ≡ (schema_key, Str (codes "Marker.2")) ∷ (codes "metadata", m)
    ∷ (codes "name", n) ∷ (codes "marked_range", span) ∷ rest
marker_renewed m n span rest lacks = ap (λ (l : Pairs). (schema_key, Str (codes "Marker.2"))
    ∷ (codes "metadata", m) ∷ (codes "name", n) ∷ (codes "marked_range", span) ∷ l)
    (without_lacks (codes "marked_range") rest lacks)

mark_upgraded : (m : Mark) → AreOthers S.Marker m.rest
    → has_member (codes "range") m.rest ≡ false → upgraded (old_mark_json m) ≡ mark_json m
mark_upgraded m o none =
    let same = old_rest (R.named_rows []) (R.optional (codes "marked_range") R.span ∷ [])
    (R.optional (codes "range") R.span) m.rest (lacks_by (codes "range") m.rest none) ∙ sym o in
    let behind = (codes "metadata", Map m.metadata) ∷ (codes "name", Str m.name)
    ∷ (codes "range", span_json m.marked_range) ∷ m.rest in
    let all = (schema_key, Str (codes "Marker.1")) ∷ behind in
    ap (λ (l : Pairs). upgraded (Map ((schema_key, Str (codes "Marker.1"))
    ∷ (codes "metadata", Map m.metadata) ∷ (codes "name", Str m.name)
    ∷ (codes "range", span_json m.marked_range) ∷ l))) same
    ∙ upgraded_at-Map all ObjectRow
    ∙ ap (λ (f : Form). Map (renewed f (pairs_at ObjectRow f all)))
    (schema_first (codes "Marker.1") behind)
    ∙ ap (λ (l : Pairs). Map (second_marker l)) (stay_same F.FirstMarker all (first_stays all))
    ∙ ap Map (marker_renewed (Map m.metadata) (Str m.name) (span_json m.marked_range) m.rest
    (mark_lacks m.rest o))
    ∙ ap (λ (l : Pairs). Map ((schema_key, Str (codes "Marker.2"))
    ∷ (codes "metadata", Map m.metadata) ∷ (codes "name", Str m.name)
    ∷ (codes "marked_range", span_json m.marked_range) ∷ l)) o

markers_upgraded : (ms : List Marker) → AreMarkers ms → list_any has_range ms ≡ false
    → items_at ObjectRow (map (marker_by old_mark_json) ms) ≡ map marker_json ms
markers_upgraded [] h none = refl
markers_upgraded ((K.Known m) ∷ ms) h none =
    let parts = or_parts (has_range (K.Known m)) (list_any has_range ms) none in
    ap₂ (λ (v : Json) (l : List Json). v ∷ l) (mark_upgraded m h.0 parts.0)
    (markers_upgraded ms h.1 parts.1)
markers_upgraded ((K.Kept json) ∷ ms) h none =
    ap₂ (λ (v : Json) (l : List Json). v ∷ l) h.0.1 (markers_upgraded ms h.1 none)

pub list_become : (ms : List Marker) → AreMarkers ms → list_any has_range ms ≡ false
    → upgraded_at (markers_by old_mark_json ms) Objects ≡ markers_json ms
list_become ms h none = upgraded_at-List (map (marker_by old_mark_json) ms) Objects
    ∙ ap JsonOfList (markers_upgraded ms h none)

-- a gap
gap_stays : (name : List ℕ) → fixed (rows_of S.Gap) name ≡ false → row_of F.Gap name ≡ Kept
gap_stays name e = where_not name (codes "markers") Objects
    ((excludes_head (rows_of S.Gap)).1.1.1.1.1.0 name e)

pub markers_free : (markers : List Marker) → markers_fault markers ≡ None
    → list_any has_range markers ≡ false
markers_free markers h = by (list_any has_range markers) refl
  where
    by : (t : Bool) → list_any has_range markers ≡ t → list_any has_range markers ≡ false
    by true e = absurd (cc (rw e at h))
    by false e = e

pub gap_upgraded : (g : Gap) → IsGap g → markers_fault g.markers ≡ None
    → upgraded (gap_in older g) ≡ gap_in newer g
gap_upgraded g h free =
    object_becomes F.Gap (text_of S.Gap) (rows_of S.Gap)
    (Map g.metadata ∷ Str g.name ∷ span_json g.source_range ∷ effects_json g.effects
    ∷ markers_by old_mark_json g.markers ∷ JsonOfBool g.enabled ∷ [])
    (Map g.metadata ∷ Str g.name ∷ span_json g.source_range ∷ effects_json g.effects
    ∷ markers_json g.markers ∷ JsonOfBool g.enabled ∷ [])
    (others (rows_of S.Gap) g.rest) refl refl (
      kept_same _,
      (
        kept_same _,
        (
          kept_same _,
          (kept_same _, (list_become g.markers h.2 (markers_free g.markers free), (kept_same _, tt))),
        ),
      ),
    )
    (others_stay F.Gap (rows_of S.Gap) g.rest gap_stays)

-- a clip: its other members stay
clip_rest_stays : (rest : Pairs) → Lacks (codes "media_reference") rest
    → Lacks (codes "markers") rest → Stay F.FirstClip rest
clip_rest_stays [] a b = tt
clip_rest_stays (m ∷ ms) a b = (
  rw (bytes_eq-sym m.0 (codes "media_reference"), a.0, bytes_eq-sym m.0 (codes "markers"), b.0) refl,
  clip_rest_stays ms a.1 b.1,
)

-- a value that isn't null is the medium of a reference
medium_layer : (layer : Json-F Json) (value : Json) → out-Json value ≡ layer → value ≢ Null
    → medium_in layer value ≡ value
unfolding Rattle.json_value.specs.declared.Json.TheViews.roll-Json denote.Hole.Carrier.roll
medium_layer Json-F.Null value e some =
    absurd (some (sym (roll-out-Json value) ∙ ap roll-Json e))
medium_layer (Json-F.Bool b) value e some = refl
medium_layer (Json-F.Num n) value e some = refl
medium_layer (Json-F.Str t) value e some = refl
medium_layer (Json-F.List l) value e some = refl
medium_layer (Json-F.Map ms) value e some = refl

-- the members of a clip of the first version, renewed
abbrev clip_front : (text m n s e k b : Json) → Pairs → Pairs
clip_front text m n s e k b rest = (schema_key, text) ∷ (codes "metadata", m) ∷ (codes "name", n)
    ∷ (codes "source_range", s) ∷ (codes "effects", e) ∷ (codes "markers", k)
    ∷ (codes "enabled", b) ∷ rest

abbrev clip_end : Json → Pairs
clip_end media = (codes "media_references", media)
    ∷ (codes "active_media_reference_key", Str (codes "DEFAULT_MEDIA")) ∷ []

pub record ClipLacks (rest : Pairs) : Type 0 where
  pub reference : Lacks (codes "media_reference") rest
  pub references : Lacks (codes "media_references") rest
  pub key : Lacks (codes "active_media_reference_key") rest
  pub markers : Lacks (codes "markers") rest

clip_renewed : (m n s e k b r : Json) (rest : Pairs) → ClipLacks rest → r ≢ Null
    → second_clip (clip_front (Str (codes "Clip.1")) m n s e k b ((codes "media_reference", r) ∷ rest))
    ≡ clip_front (Str (codes "Clip.2")) m n s e k b (rest ++ clip_end (media_of r))
clip_renewed m n s e k b r rest lacks some =
    let last = codes "active_media_reference_key" in
    let named = codes "media_references" in
    let default = Str (codes "DEFAULT_MEDIA") in
    let kept = ap (without last) (without_lacks named rest lacks.references)
    ∙ without_lacks last rest lacks.key in
    let tail = ap (λ (l : Pairs). put last default (put named (media_of r) l)) kept
    ∙ ap (put last default) (put_end named (media_of r) rest lacks.references)
    ∙ put_lacks last default rest ((named, media_of r) ∷ []) lacks.key in
    ap (λ (j : Json). clip_front (Str (codes "Clip.2")) m n s e k b
    (put last default (put named (media_of j) (without last (without named rest)))))
    (medium_layer (out-Json r) r refl some)
    ∙ ap (clip_front (Str (codes "Clip.2")) m n s e k b) tail

-- what a clip with one reference has
pub record OneReference (c : Clip) : Type 0 where
  pub reference : Media
  pub alone : c.media_references ≡ (codes "DEFAULT_MEDIA", reference) ∷ []
  pub key : c.active_media_reference_key ≡ codes "DEFAULT_MEDIA"

default_is : (key : List ℕ) → is_default key ≡ true → key ≡ codes "DEFAULT_MEDIA"
default_is key h = (bytes_eq-Decides key (codes "DEFAULT_MEDIA")).0 h

one_reference : (c : Clip) (media : List (List ℕ × Media)) → c.media_references ≡ media
    → is_one_default media ≡ true → is_default c.active_media_reference_key ≡ true → OneReference c
one_reference c [] e one key = absurd (false≢true one)
one_reference c (m ∷ []) e one key = record {
  reference = m.1;
  alone = e ∙ ap (λ (k : List ℕ). (k, m.1) ∷ []) (default_is m.0 one);
  key = default_is c.active_media_reference_key key;
}
one_reference c (m ∷ n ∷ more) e one key = absurd (false≢true one)

-- a clip that nothing stands in the way of
pub record IsFree (c : Clip) : Type 0 where
  pub one : OneReference c
  pub member : has_member (codes "media_reference") c.rest ≡ false
  pub markers : list_any has_range c.markers ≡ false

clip_free : (c : Clip) → clip_fault c ≡ None → IsFree c
clip_free c h = by (has_one_key c) refl h
  where
    inside : (t : Bool) → (has_member (codes "media_reference") c.rest || list_any has_range c.markers) ≡ t
        → has_one_key c ≡ true
        → cond t (Some Member) None ≡ None → IsFree c
    inside true e one h = absurd (cc h)
    inside false e one h =
        let parts = or_parts (has_member (codes "media_reference") c.rest) (list_any has_range c.markers) e in
        let keys = and_parts (is_one_default c.media_references) (is_default c.active_media_reference_key) one in
        record {
          one = one_reference c c.media_references refl keys.0 keys.1;
          member = parts.0;
          markers = parts.1;
        }

    by : (t : Bool) → has_one_key c ≡ t → clip_fault c ≡ None → IsFree c
    by false e h = absurd (cc (rw e at h))
    by true e h = inside (has_member (codes "media_reference") c.rest || list_any has_range c.markers) refl e (rw e at h)

clip_lacks : (rest : Pairs) → AreOthers S.Clip rest
    → has_member (codes "media_reference") rest ≡ false → ClipLacks rest
clip_lacks rest o none =
    let rows = rows_of S.Clip in
    let head = excludes_head rows in
    record {
      reference = lacks_by (codes "media_reference") rest none;
      references = subst (Lacks (codes "media_references")) (sym o)
          (others_lack (codes "media_references") rows rest head.1.1.1.1.1.1.1.0);
      key = subst (Lacks (codes "active_media_reference_key")) (sym o)
          (others_lack (codes "active_media_reference_key") rows rest head.1.1.1.1.1.1.1.1.0);
      markers = subst (Lacks (codes "markers")) (sym o)
          (others_lack (codes "markers") rows rest head.1.1.1.1.1.0);
    }

-- what the medium is written as isn't null
medium_some : (m : Media) → IsMedium m → medium_json m ≢ Null
medium_some (M.External e) h = map_not_null _
medium_some (M.Missing m) h = map_not_null _
medium_some (M.Generator g) h = map_not_null _
medium_some (M.Sequence s) h = map_not_null _
medium_some (M.Kept json) h = h.0

-- the members of a clip as they are after an upgrade
abbrev renewed_pairs : Clip → Json → Pairs
renewed_pairs c r = clip_front (Str (codes "Clip.2")) (Map c.metadata) (Str c.name)
    (span_json c.source_range) (effects_json c.effects) (markers_json c.markers)
    (JsonOfBool c.enabled) (c.rest ++ clip_end (media_of r))

clip_upgraded : (c : Clip) (free : IsFree c) → IsClip c → IsMedium free.one.reference
    → upgraded (old_clip_json c) ≡ Map (renewed_pairs c (medium_json free.one.reference))
clip_upgraded c free h w =
    let r = medium_json free.one.reference in
    let lacks = clip_lacks c.rest h.0 free.member in
    let reference : reference_json c.media_references ≡ r = ap reference_json free.one.alone in
    let six = λ (k : Json). Map c.metadata ∷ Str c.name ∷ span_json c.source_range
    ∷ effects_json c.effects ∷ k ∷ JsonOfBool c.enabled ∷ r ∷ [] in
    ap₂ (λ (j : Json) (l : Pairs). upgraded (Map (clip_front (Str (codes "Clip.1"))
    (Map c.metadata) (Str c.name) (span_json c.source_range) (effects_json c.effects)
    (markers_by old_mark_json c.markers) (JsonOfBool c.enabled)
    ((codes "media_reference", j) ∷ l)))) reference
    (old_rest (R.item_rows []) (R.optional (codes "media_references") R.media
    ∷ R.optional (codes "active_media_reference_key") (R.text (codes "DEFAULT_MEDIA")) ∷ [])
    (R.optional (codes "media_reference") R.medium) c.rest lacks.reference ∙ sym h.0)
    ∙ object_becomes F.FirstClip (codes "Clip.1") (rows_of S.FirstClip) (six (markers_by old_mark_json c.markers))
    (six (markers_json c.markers)) c.rest refl refl (
      kept_same _,
      (
        kept_same _,
        (
          kept_same _,
          (
            kept_same _,
            (
              list_become c.markers h.2 free.markers,
              (kept_same _, (medium_same free.one.reference w, tt)),
            ),
          ),
        ),
      ),
    )
    (clip_rest_stays c.rest lacks.reference lacks.markers)
    ∙ ap Map (clip_renewed (Map c.metadata) (Str c.name) (span_json c.source_range)
    (effects_json c.effects) (markers_json c.markers) (JsonOfBool c.enabled) r c.rest lacks
    (medium_some free.one.reference w))

-- each row finds its value
abbrev Found : List Row → List Json → Pairs → Type 0
Found (row ∷ rows) (json ∷ jsons) ms = (value_of row.name ms ≡ Some json) × Found rows jsons ms
Found [] [] ms = Unit {0}
Found rows jsons ms = ⊥

found_stands : (rows : List Row) (jsons : List Json) (values : List Value) (ms : Pairs)
    → Found rows jsons ms → HoldsAll rows jsons values → Gives_rows rows ms values
found_stands [] [] [] ms f h = W.no_rows [] ms [] refl refl
found_stands [] [] (v ∷ values) ms f h = absurd h
found_stands [] (j ∷ jsons) values ms f h = absurd f
found_stands (row ∷ rows) [] values ms f h = absurd f
found_stands (row ∷ rows) (json ∷ jsons) [] ms f h = absurd h
found_stands (row ∷ rows) (json ∷ jsons) (value ∷ values) ms f h =
    W.more_rows (row ∷ rows) ms (value ∷ values) row rows value values refl refl
    (row_stands row ms json value f.0 h.0) (found_stands rows jsons values ms f.1 h.1)

others_end : (rest : Pairs) (media : Json) → AreOthers S.Clip rest
    → others (rows_of S.Clip) (rest ++ clip_end media) ≡ rest
others_end rest media o =
    filter-append (λ (m : List ℕ × Json). not (fixed (rows_of S.Clip) m.0)) rest (clip_end media)
    ∙ ap (λ (l : Pairs). l ++ []) (sym o) ∙ append-nil rest

pub clip_old : (family : List Schema) → named (name_of S.Clip) family ≡ Some S.Clip → (c : Clip)
    → IsClip c → clip_fault c ≡ None
    → Gives_fields family (upgraded (old_clip_json c)) (clip_fields c)
clip_old family found c h none =
    let free = clip_free c none in
    let media : AreMedia ((codes "DEFAULT_MEDIA", free.one.reference) ∷ []) =
    subst AreMedia free.one.alone h.3 in
    let r = medium_json free.one.reference in
    let lacks = clip_lacks c.rest h.0 free.member in
    let ms = renewed_pairs c r in
    let text : V.Text c.active_media_reference_key ≡ V.Text (codes "DEFAULT_MEDIA") = ap V.Text free.one.key in
    let values = λ (m : List (List ℕ × Media)) (k : List ℕ). V.Meta c.metadata ∷ V.Text c.name
    ∷ V.Span c.source_range ∷ V.Effects c.effects ∷ V.Markers c.markers ∷ V.Flag c.enabled
    ∷ V.Media m ∷ V.Text k ∷ [] in
    let newest : 2 ≤ version_of S.Clip = omega arith in
    let one : List (List ℕ × Media) = (codes "DEFAULT_MEDIA", free.one.reference) ∷ [] in
    let jsons = Map c.metadata ∷ Str c.name ∷ span_json c.source_range ∷ effects_json c.effects
    ∷ markers_json c.markers ∷ JsonOfBool c.enabled ∷ media_of r
    ∷ Str (codes "DEFAULT_MEDIA") ∷ [] in
    let rows = found_stands (rows_of S.Clip) jsons (values one (codes "DEFAULT_MEDIA")) ms (
      refl,
      (
        refl,
        (
          refl,
          (
            refl,
            (
              refl,
              (
                refl,
                (
                  value_lacks (codes "media_references") c.rest (clip_end (media_of r)) lacks.references,
                  (
                    value_lacks (codes "active_media_reference_key") c.rest (clip_end (media_of r)) lacks.key,
                    tt,
                  ),
                ),
              ),
            ),
          ),
        ),
      ),
    ) (shared_held c.metadata c.name c.source_range c.effects c.markers c.enabled
    (R.optional (codes "media_references") R.media
    ∷ R.optional (codes "active_media_reference_key") (R.text (codes "DEFAULT_MEDIA")) ∷ [])
    (media_of r ∷ Str (codes "DEFAULT_MEDIA") ∷ [])
    (V.Media one ∷ V.Text (codes "DEFAULT_MEDIA") ∷ []) h.1 h.2
    (media_held _ one refl media, (text_held _ (codes "DEFAULT_MEDIA") (codes "DEFAULT_MEDIA") refl, tt))) in
    let given : Gives_fields family (Map ms) (record {
      schema = S.Clip;
      values = values one (codes "DEFAULT_MEDIA");
      rest = c.rest;
    }) = W.fields family (Map ms) _ ms (name_of S.Clip) 2 (values one (codes "DEFAULT_MEDIA"))
    (record { object = refl; text = text_of S.Clip; member = refl; schema = schema_text S.Clip })
    found newest rows refl refl (sym (others_end c.rest (media_of r) h.0)) in
    let own : Gives_fields family (Map ms) (clip_fields c) =
    subst (λ (m : List (List ℕ × Media)). Gives_fields family (Map ms) (record {
      schema = S.Clip;
      values = values m c.active_media_reference_key;
      rest = c.rest;
    })) (sym free.one.alone)
    (subst (λ (k : List ℕ). Gives_fields family (Map ms) (record {
      schema = S.Clip;
      values = values one k;
      rest = c.rest;
    })) (sym free.one.key) given) in
    subst (λ (json : Json). Gives_fields family json (clip_fields c))
    (sym (clip_upgraded c free h media.0)) own
