-- Members of an object that an upgrade leaves as it is: what stands in its rows stays too.
use Rattle.std.proofs.Common.{◌≡◌, ℕ, Bool, true, false, ◌&&◌, List, [], ◌∷◌, Option, Some, refl, sym, ap, ap₂, subst, ◌∙◌, codes}
use Rattle.std.specs.Prelude.{◌==◌}
use Rattle.std.specs.Str.{bytes_eq}
use Rattle.std.proofs.lemmas.Bool.{false≢true, and_parts}
use Rattle.std.proofs.lemmas.Slice.Eq.{bytes_eq-Decides}
use Rattle.json_value.specs.declared.Json.{Json, Str, Map, Null}
use Rattle.json_value.specs.declared.Json.TheVariants as J
use Rattle.json_value.specs.declared.Json.TheOpen.{Json-F}
use Rattle.sequences.specs.Pairs.{value_of, put}
use Rattle.schema_rows.specs.Rows as R
use Rattle.schema_rows.specs.Rows.{Row, RowKind}
use Rattle.schema_rows.specs.declared.schemas.Schema.{Schema}
use Rattle.schema_rows.specs.declared.schemas.Schema.TheVariants as S
use Rattle.schema_up.specs.declared.old_names.Form.{Form}
use Rattle.schema_up.specs.declared.old_names.Form.TheVariants as F
use Rattle.schema_up.specs.declared.old_names.Row.{Row as Place}
use Rattle.schema_up.specs.declared.old_names.Row.TheVariants.{Kept, Object, Objects, Media}
use Rattle.schema_up.specs.Names.{schema_in, schema_or_other, string_in, text_at, named as form_named}
use Rattle.schema_up.specs.UpgradeRows.{row_of}
use Rattle.schema_up.specs.Upgrades.{Pairs, upgraded, upgraded_at, pairs_at, map_at, renewed, second_clip, clip_kept, media_of, medium_of}
use Rattle.schema_rows.specs.Schemas.{schema_key, rows_of, name_of, named, IsObjectOf}
use Rattle.schema_up.proofs.PutLemmas.{put_same, put_other}
use Rattle.schema_up.proofs.Levels.{upgraded_at-Map, kept_same}
use Rattle.schema_rows.proofs.JsonParts.{map_once}
use Rattle.object_law.specs.Writable.{IsUpgraded}
use Rattle.object_law.proofs.SchemaForms.{form_is}

-- what stands in a row of a kind
abbrev pub place_of : RowKind → Place
place_of R.items = Objects
place_of R.objects = Objects
place_of R.markers = Objects
place_of R.media = Media
place_of R.stack = Object
place_of (R.text default) = Kept
place_of R.flag = Kept
place_of R.meta = Kept
place_of R.medium = Kept
place_of R.span = Kept
place_of R.time = Kept
place_of (R.number default) = Kept
place_of R.effects = Kept
place_of R.rate = Kept
place_of R.numeral = Kept

-- the value stays in a row of the kind
abbrev pub Stays : RowKind → Json → Type 0
Stays kind json = upgraded_at json (place_of kind) ≡ json

-- what each row finds stays
abbrev pub RowsStay : List Row → Pairs → Type 0
RowsStay [] ms = Unit {0}
RowsStay (row ∷ rows) ms = ((json : Json) → value_of row.name ms ≡ Some json → Stays row.kind json)
    × RowsStay rows ms

-- nothing stands inside a row of the kind, nor inside the rows
abbrev pub is_flat_kind : RowKind → Bool
is_flat_kind R.items = false
is_flat_kind R.objects = false
is_flat_kind R.markers = false
is_flat_kind R.media = false
is_flat_kind R.stack = false
is_flat_kind _ = true

abbrev pub are_flat : List Row → Bool
are_flat [] = true
are_flat (row ∷ rows) = is_flat_kind row.kind && are_flat rows

flat_kind : (kind : RowKind) → is_flat_kind kind ≡ true → place_of kind ≡ Kept
flat_kind R.items h = absurd (false≢true h)
flat_kind R.objects h = absurd (false≢true h)
flat_kind R.markers h = absurd (false≢true h)
flat_kind R.media h = absurd (false≢true h)
flat_kind R.stack h = absurd (false≢true h)
flat_kind (R.text default) h = refl
flat_kind R.flag h = refl
flat_kind R.meta h = refl
flat_kind R.medium h = refl
flat_kind R.span h = refl
flat_kind R.time h = refl
flat_kind (R.number default) h = refl
flat_kind R.effects h = refl
flat_kind R.rate h = refl
flat_kind R.numeral h = refl

pub flat_stay : (rows : List Row) (ms : Pairs) → are_flat rows ≡ true → RowsStay rows ms
flat_stay [] ms h = tt
flat_stay (row ∷ rows) ms h =
    let parts = and_parts (is_flat_kind row.kind) (are_flat rows) h in (
      λ json at. ap (upgraded_at json) (flat_kind row.kind parts.0) ∙ kept_same json,
      flat_stay rows ms parts.1,
    )

-- the rows of a form's table
abbrev Agree : Form → List Row → Type 0
Agree form [] = Unit {0}
Agree form (row ∷ rows) = (row_of form row.name ≡ place_of row.kind) × Agree form rows

first_value : Pairs → Json
first_value [] = Null
first_value (m ∷ ms) = m.1

others_of : Pairs → Pairs
others_of [] = []
others_of (m ∷ ms) = ms

value_stays : (form : Form) (ms : Pairs) (name : List ℕ) (json : Json)
    → pairs_at Object form ms ≡ ms → value_of name ms ≡ Some json
    → upgraded_at json (row_of form name) ≡ json
unfolding first_value others_of
value_stays form [] name json e at = absurd (cc at)
value_stays form (m ∷ ms) name json e at =
    by (bytes_eq name m.0) refl at (value_stays form ms name json (ap others_of e))
  where
    by : (t : Bool) → bytes_eq name m.0 ≡ t → value_of name (m ∷ ms) ≡ Some json
        → (value_of name ms ≡ Some json → upgraded_at json (row_of form name) ≡ json)
        → upgraded_at json (row_of form name) ≡ json
    by true h at below =
        let same : name ≡ m.0 = (bytes_eq-Decides name m.0).0 h in
        let is : m.1 ≡ json = cc (rw h at at) in
        subst (λ (v : Json). upgraded_at v (row_of form name) ≡ v) is
        (ap (λ (n : List ℕ). upgraded_at m.1 (row_of form n)) same ∙ ap first_value e)
    by false h at below = below (rw h at at)

form_stays : (form : Form) (rows : List Row) (ms : Pairs) → Agree form rows
    → pairs_at Object form ms ≡ ms → RowsStay rows ms
form_stays form [] ms agree e = tt
form_stays form (row ∷ rows) ms agree e = (
  λ json at. ap (upgraded_at json) (sym agree.0) ∙ value_stays form ms row.name json e at,
  form_stays form rows ms agree.1 e,
)

-- the form of an object's schema
object_form : (json : Json) (ms : Pairs) (name : List ℕ) (version : ℕ)
    → (is : IsObjectOf json ms name version) → schema_in ms ≡ form_named name (version == 1)
object_form json ms name version is =
    ap (λ (o : Option Json). schema_or_other (text_at o)) is.member
    ∙ ap (λ (layer : Json-F Json). schema_or_other (string_in layer)) (J.outs-Str is.text)
    ∙ form_is is.text name version is.schema

-- its members, where it stays
members_stay : (json : Json) (ms : Pairs) → json ≡ Map ms → IsUpgraded json → (form : Form)
    → schema_in ms ≡ form → renewed form (pairs_at Object form ms) ≡ ms
members_stay json ms is stays form named =
    let all : Map (map_at Object ms) ≡ Map ms =
    sym (upgraded_at-Map ms Object) ∙ ap (λ (v : Json). upgraded v) (sym is) ∙ stays ∙ is in
    ap (λ (f : Form). renewed f (pairs_at Object f ms)) (sym named)
    ∙ map_once (Map (map_at Object ms)) (map_at Object ms) ms refl all

-- a clip of the first version doesn't stay
clip_schema : (ms : Pairs) → schema_in (second_clip ms) ≡ F.Clip
clip_schema ms =
    let media = media_of (medium_of (value_of (codes "media_reference") ms)) in
    let schema = put schema_key (Str (codes "Clip.2")) (clip_kept ms) in
    let named = put (codes "media_references") media schema in
    ap (λ (o : Option Json). schema_or_other (text_at o))
    (put_other schema_key (codes "active_media_reference_key") (Str (codes "DEFAULT_MEDIA")) named
    refl ∙ put_other schema_key (codes "media_references") media schema refl
    ∙ put_same schema_key (Str (codes "Clip.2")) (clip_kept ms))
    ∙ ap (λ (layer : Json-F Json). schema_or_other (string_in layer)) (J.outs-Str (codes "Clip.2"))

no_first_clip : (json : Json) (ms : Pairs) → json ≡ Map ms → IsUpgraded json
    → schema_in ms ≡ F.FirstClip → ⊥
no_first_clip json ms is stays first =
    let e = members_stay json ms is stays F.FirstClip first in
    let both : F.Clip ≡ F.FirstClip =
    sym (clip_schema (pairs_at Object F.FirstClip ms)) ∙ ap schema_in e ∙ first in
    cc both

-- the schema of a name in a family has that name
pub named_name : (name : List ℕ) (family : List Schema) (schema : Schema)
    → named name family ≡ Some schema → name ≡ name_of schema
named_name name [] schema h = absurd (cc h)
named_name name (first ∷ family) schema h =
    by (bytes_eq name (name_of first)) refl h (named_name name family schema)
  where
    by : (t : Bool) → bytes_eq name (name_of first) ≡ t → named name (first ∷ family) ≡ Some schema
        → (named name family ≡ Some schema → name ≡ name_of schema) → name ≡ name_of schema
    by true e h below =
        let same : first ≡ schema = cc (rw e at h) in
        (bytes_eq-Decides name (name_of first)).0 e ∙ ap name_of same
    by false e h below = below (rw e at h)

-- what each row of an object's table finds stays, where the object stays or nothing stands inside
in_form : (json : Json) (ms : Pairs) (name : List ℕ) (version : ℕ) (rows : List Row) (form : Form)
    → (is : IsObjectOf json ms name version) → form_named name (version == 1) ≡ form
    → ((xs : Pairs) → renewed form xs ≡ xs) → Agree form rows → IsUpgraded json → RowsStay rows ms
in_form json ms name version rows form is named new agree stays =
    form_stays form rows ms agree
    (sym (new (pairs_at Object form ms))
    ∙ members_stay json ms is.object stays form (object_form json ms name version is ∙ named))

in_clip : (json : Json) (ms : Pairs) (name : List ℕ) (version : ℕ) (rows : List Row)
    → (is : IsObjectOf json ms name version) → name ≡ name_of S.Clip → Agree F.Clip rows
    → IsUpgraded json → RowsStay rows ms
in_clip json ms name version rows is same agree stays = by (version == 1) refl
  where
    by : (t : Bool) → (version == 1) ≡ t → RowsStay rows ms
    by true e = absurd (no_first_clip json ms is.object stays
        (object_form json ms name version is ∙ ap₂ form_named same e))
    by false e = in_form json ms name version rows F.Clip is (ap₂ form_named same e)
        (λ xs. refl) agree stays

at_name : (name : List ℕ) (version : ℕ) (schema : Schema) → name ≡ name_of schema
    → form_named name (version == 1) ≡ form_named (name_of schema) (version == 1)
at_name name version schema same = ap (λ (n : List ℕ). form_named n (version == 1)) same

pub rows_stay : (json : Json) (ms : Pairs) (name : List ℕ) (version : ℕ) (schema : Schema)
    → IsObjectOf json ms name version → name ≡ name_of schema
    → (are_flat (rows_of schema) ≡ false → IsUpgraded json) → RowsStay (rows_of schema) ms
rows_stay json ms name version S.Timeline is same up = in_form json ms name version
    (rows_of S.Timeline) F.Timeline is (at_name name version S.Timeline same) (λ xs. refl)
    (refl, (refl, (refl, (refl, tt)))) (up refl)
rows_stay json ms name version S.Collection is same up = in_form json ms name version
    (rows_of S.Collection) F.Collection is (at_name name version S.Collection same) (λ xs. refl)
    (refl, (refl, (refl, tt))) (up refl)
rows_stay json ms name version S.Stack is same up = in_form json ms name version
    (rows_of S.Stack) F.Stack is (at_name name version S.Stack same) (λ xs. refl)
    (refl, (refl, (refl, (refl, (refl, (refl, (refl, tt))))))) (up refl)
rows_stay json ms name version S.Track is same up = in_form json ms name version
    (rows_of S.Track) F.Track is (at_name name version S.Track same) (λ xs. refl)
    (refl, (refl, (refl, (refl, (refl, (refl, (refl, (refl, tt)))))))) (up refl)
rows_stay json ms name version S.Clip is same up = in_clip json ms name version
    (rows_of S.Clip) is same
    (refl, (refl, (refl, (refl, (refl, (refl, (refl, (refl, tt)))))))) (up refl)
rows_stay json ms name version S.FirstClip is same up = in_clip json ms name version
    (rows_of S.FirstClip) is same
    (refl, (refl, (refl, (refl, (refl, (refl, (refl, tt))))))) (up refl)
rows_stay json ms name version S.Gap is same up = in_form json ms name version
    (rows_of S.Gap) F.Gap is (at_name name version S.Gap same) (λ xs. refl)
    (refl, (refl, (refl, (refl, (refl, (refl, tt)))))) (up refl)
rows_stay json ms name version S.Transition is same up = flat_stay (rows_of S.Transition) ms refl
rows_stay json ms name version S.Warp is same up = flat_stay (rows_of S.Warp) ms refl
rows_stay json ms name version S.Freeze is same up = flat_stay (rows_of S.Freeze) ms refl
rows_stay json ms name version S.TimeEffect is same up = flat_stay (rows_of S.TimeEffect) ms refl
rows_stay json ms name version S.Effect is same up = flat_stay (rows_of S.Effect) ms refl
rows_stay json ms name version S.Marker is same up = flat_stay (rows_of S.Marker) ms refl
rows_stay json ms name version S.FirstMarker is same up = flat_stay (rows_of S.FirstMarker) ms refl
rows_stay json ms name version S.External is same up = flat_stay (rows_of S.External) ms refl
rows_stay json ms name version S.Missing is same up = flat_stay (rows_of S.Missing) ms refl
rows_stay json ms name version S.Generator is same up = flat_stay (rows_of S.Generator) ms refl
rows_stay json ms name version S.Images is same up = flat_stay (rows_of S.Images) ms refl
rows_stay json ms name version S.TimeRange is same up = flat_stay (rows_of S.TimeRange) ms refl
rows_stay json ms name version S.RationalTime is same up = flat_stay (rows_of S.RationalTime) ms refl

-- families of schemas in whose rows nothing stands
abbrev pub all_flat : List Schema → Bool
all_flat [] = true
all_flat (schema ∷ family) = are_flat (rows_of schema) && all_flat family

pub flat_among : (name : List ℕ) (family : List Schema) (schema : Schema) → all_flat family ≡ true
    → named name family ≡ Some schema → are_flat (rows_of schema) ≡ true
flat_among name [] schema all h = absurd (cc h)
flat_among name (first ∷ family) schema all h =
    by (bytes_eq name (name_of first)) refl h (flat_among name family schema parts.1)
  where
    parts : (are_flat (rows_of first) ≡ true) × (all_flat family ≡ true)
    parts = and_parts (are_flat (rows_of first)) (all_flat family) all

    by : (t : Bool) → bytes_eq name (name_of first) ≡ t → named name (first ∷ family) ≡ Some schema
        → (named name family ≡ Some schema → are_flat (rows_of schema) ≡ true)
        → are_flat (rows_of schema) ≡ true
    by true e h below =
        let same : first ≡ schema = cc (rw e at h) in
        subst (λ (s : Schema). are_flat (rows_of s) ≡ true) same parts.0
    by false e h below = below (rw e at h)
