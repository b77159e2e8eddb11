-- Members whose numerals are of JSON keep that when their object is renewed.
use Rattle.std.proofs.Common.{ℕ, Bool, true, false, List, [], ◌∷◌, ◌++◌, Option, Some, None, refl, sym, subst, if◌then◌else◌, codes}
use Rattle.std.specs.Str.{bytes_eq}
use Rattle.json_value.specs.declared.Json.{Json, out-Json, Str}
use Rattle.json_value.specs.declared.Json.TheOpen.{Json-F}
use Rattle.sequences.specs.Pairs.{value_of, put}
use Rattle.schema_up.specs.declared.old_names.Form.{Form}
use Rattle.schema_up.specs.declared.old_names.Form.TheVariants as S
use Rattle.schema_up.specs.declared.old_names.Row.{Row}
use Rattle.schema_up.specs.declared.old_names.Row.TheVariants.{Kept, Object, Objects, Media}
use Rattle.schema_up.specs.Names.{schema_text}
use Rattle.schema_up.specs.Upgrades.{Pairs, with_schema, without, named_anew, version_part, with_name, missing, medium_in, medium_of, media_of, clip_kept, second_clip, second_marker, renewed, renewed_at}
use Rattle.json_law.proofs.NumeralsInside.{HasAll, MembersHave, is_string, is_object, no_pairs, more_pairs}

either_has : (b : Bool) (x y : Pairs) → MembersHave x → MembersHave y → MembersHave (if b then x else y)
either_has true x y h k = h
either_has false x y h k = k

-- one more member in front
front : (name : List ℕ) (value : Json) (others : Pairs) → HasAll value → MembersHave others → MembersHave ((name, value) ∷ others)
front name value others h k = more_pairs ((name, value) ∷ others) name value others refl h k

none : MembersHave []
none = no_pairs [] refl

put_has : (name : List ℕ) (value : Json) → HasAll value → {members : Pairs} → MembersHave members → MembersHave (put name value members)
put_has name value h (no_pairs members e) = subst (λ (ms : Pairs). MembersHave (put name value ms)) (sym e) (front name value [] h none)
put_has name value h (more_pairs members n v others e hv k) =
    subst (λ (ms : Pairs). MembersHave (put name value ms)) (sym e)
    (either_has (bytes_eq name n) ((name, value) ∷ others) ((n, v) ∷ put name value others) (front name value others h k) (front n v (put name value others) hv (put_has name value h k)))

without_has : (name : List ℕ) → {members : Pairs} → MembersHave members → MembersHave (without name members)
without_has name (no_pairs members e) = subst (λ (ms : Pairs). MembersHave (without name ms)) (sym e) none
without_has name (more_pairs members n v others e hv k) =
    subst (λ (ms : Pairs). MembersHave (without name ms)) (sym e)
    (either_has (bytes_eq name n) others ((n, v) ∷ without name others) k (front n v (without name others) hv (without_has name k)))

anew_has : (old new : List ℕ) → {members : Pairs} → MembersHave members → MembersHave (named_anew old new members)
anew_has old new (no_pairs members e) = subst (λ (ms : Pairs). MembersHave (named_anew old new ms)) (sym e) none
anew_has old new (more_pairs members n v others e hv k) =
    subst (λ (ms : Pairs). MembersHave (named_anew old new ms)) (sym e)
    (either_has (bytes_eq old n) ((new, v) ∷ others) ((n, v) ∷ named_anew old new others) (front new v others hv k) (front n v (named_anew old new others) hv (anew_has old new k)))

text_has : (text : List ℕ) → HasAll (Str text)
text_has text = is_string (Str text) text refl

missing_has : HasAll missing
missing_has = is_object missing ((codes "OTIO_SCHEMA", Str (codes "MissingReference.1")) ∷ []) refl (front (codes "OTIO_SCHEMA") (Str (codes "MissingReference.1")) [] (text_has (codes "MissingReference.1")) none)

abbrev HasSome : Option Json → Type 0
HasSome None = Unit {0}
HasSome (Some value) = HasAll value

either_value : (b : Bool) (value : Json) (o : Option Json) → HasAll value → HasSome o → HasSome (if b then Some value else o)
either_value true value o h k = h
either_value false value o h k = k

value_has : (name : List ℕ) → {members : Pairs} → MembersHave members → HasSome (value_of name members)
value_has name (no_pairs members e) = subst (λ (ms : Pairs). HasSome (value_of name ms)) (sym e) tt
value_has name (more_pairs members n v others e hv k) =
    subst (λ (ms : Pairs). HasSome (value_of name ms)) (sym e) (either_value (bytes_eq name n) v (value_of name others) hv (value_has name k))

medium_in_has : (layer : Json-F Json) (value : Json) → HasAll value → HasAll (medium_in layer value)
medium_in_has Json-F.Null value h = missing_has
medium_in_has (Json-F.Bool b) value h = h
medium_in_has (Json-F.Num numeral) value h = h
medium_in_has (Json-F.Str text) value h = h
medium_in_has (Json-F.List items) value h = h
medium_in_has (Json-F.Map members) value h = h

medium_has : (o : Option Json) → HasSome o → HasAll (medium_of o)
medium_has None h = missing_has
medium_has (Some value) h = medium_in_has (out-Json value) value h

media_has : (medium : Json) → HasAll medium → HasAll (media_of medium)
media_has medium h = is_object (media_of medium) ((codes "DEFAULT_MEDIA", medium) ∷ []) refl (front (codes "DEFAULT_MEDIA") medium [] h none)

schema_has : (text : List ℕ) → {members : Pairs} → MembersHave members → MembersHave (with_schema text members)
schema_has text k = put_has (codes "OTIO_SCHEMA") (Str text) (text_has text) k

name_has : (name : List ℕ) → {members : Pairs} → MembersHave members → MembersHave (with_name name members)
name_has name {members} k = schema_has (name ++ version_part (schema_text members)) k

clip_kept_has : {members : Pairs} → MembersHave members → MembersHave (clip_kept members)
clip_kept_has k = without_has (codes "active_media_reference_key") (without_has (codes "media_references") (without_has (codes "media_reference") k))

clip_has : {members : Pairs} → MembersHave members → MembersHave (second_clip members)
clip_has {members} k =
    let medium = medium_of (value_of (codes "media_reference") members) in
    let has : HasAll medium = medium_has (value_of (codes "media_reference") members) (value_has (codes "media_reference") k) in
    put_has (codes "active_media_reference_key") (Str (codes "DEFAULT_MEDIA")) (text_has (codes "DEFAULT_MEDIA"))
    (put_has (codes "media_references") (media_of medium) (media_has medium has) (schema_has (codes "Clip.2") (clip_kept_has k)))

marker_has : {members : Pairs} → MembersHave members → MembersHave (second_marker members)
marker_has k = schema_has (codes "Marker.2") (anew_has (codes "range") (codes "marked_range") (without_has (codes "marked_range") k))

renewed_has : (schema : Form) → {members : Pairs} → MembersHave members → MembersHave (renewed schema members)
renewed_has S.Timeline k = k
renewed_has S.Collection k = k
renewed_has S.OldCollection k = name_has (codes "SerializableCollection") k
renewed_has S.Stack k = k
renewed_has S.Track k = k
renewed_has S.Sequence k = name_has (codes "Track") k
renewed_has S.FirstClip k = clip_has k
renewed_has S.Clip k = k
renewed_has S.Gap k = k
renewed_has S.Filler k = name_has (codes "Gap") k
renewed_has S.FirstMarker k = marker_has k
renewed_has S.Other k = k

pub renewed_at_has : (row : Row) (schema : Form) → {members : Pairs} → MembersHave members → MembersHave (renewed_at row schema members)
renewed_at_has Kept schema k = k
renewed_at_has Object schema k = renewed_has schema k
renewed_at_has Objects schema k = k
renewed_at_has Media schema k = k
