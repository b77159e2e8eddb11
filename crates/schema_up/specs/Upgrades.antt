-- The upgrade of old objects: old names and versions of schemas rewritten.
use Rattle.std.specs.Prelude.{ℕ, List, [], ◌∷◌, ◌++◌, map, Option, Some, None, if◌then◌else◌, codes}
use Rattle.std.specs.List.{after_first}
use Rattle.std.specs.Str.{bytes_eq}
use Rattle.json_value.specs.declared.Json.{Json, Null, Bool as JsonOfBool, Num, Str, List as JsonOfList, Map, fold-Json, out-Json}
use Rattle.json_value.specs.declared.Json.TheOpen.{Json-F}
use Rattle.sequences.specs.Pairs.{value_of, put}
use Rattle.schema_up.specs.declared.old_names.Form.{Form}
use Rattle.schema_up.specs.declared.old_names.Form.TheVariants.{Timeline, Collection, OldCollection, Stack, Track, Sequence, FirstClip, Clip, Gap, Filler, FirstMarker, Other}
use Rattle.schema_up.specs.declared.old_names.Row.{Row}
use Rattle.schema_up.specs.declared.old_names.Row.TheVariants.{Kept, Object, Objects, Media}
use Rattle.schema_up.specs.Names.{is_point, schema_text, schema_in}
use Rattle.schema_up.specs.UpgradeRows.{item_row, member_row}

-- an object's members, in order, each a name and a value
abbrev pub Pairs : Type 0
Pairs = List (List ℕ × Json)

-- the members with this text as their schema, in the place of the old one
abbrev pub with_schema : List ℕ → Pairs → Pairs
with_schema text members = put (codes "OTIO_SCHEMA") (Str text) members

-- the members without the one of that name
abbrev pub without : List ℕ → Pairs → Pairs
without name [] = []
without name (m ∷ ms) = if bytes_eq name m.0 then ms else m ∷ without name ms

-- the members, where the one of the old name has the new name
abbrev pub named_anew : List ℕ → List ℕ → Pairs → Pairs
named_anew old new [] = []
named_anew old new (m ∷ ms) = if bytes_eq old m.0 then (new, m.1) ∷ ms
    else m ∷ named_anew old new ms

-- the version of a schema's text, with the point before it
abbrev pub version_part : Option (List ℕ) → List ℕ
version_part None = []
version_part (Some text) = 46 ∷ after_first is_point text

-- an object of a schema with a new name: the version stays as it is written
abbrev pub with_name : List ℕ → Pairs → Pairs
with_name name members = with_schema (name ++ version_part (schema_text members)) members

-- a medium that is missing
abbrev pub missing : Json
missing = Map ((codes "OTIO_SCHEMA", Str (codes "MissingReference.1")) ∷ [])

-- the medium of a reference, of one level of it: a missing one where the reference is null
abbrev pub medium_in : Json-F Json → Json → Json
medium_in Json-F.Null value = missing
medium_in (Json-F.Bool b) value = value
medium_in (Json-F.Num numeral) value = value
medium_in (Json-F.Str text) value = value
medium_in (Json-F.List items) value = value
medium_in (Json-F.Map members) value = value

-- the medium of a clip's one reference: a missing one where that is absent or null
abbrev pub medium_of : Option Json → Json
medium_of None = missing
medium_of (Some value) = medium_in (out-Json value) value

-- the media of a clip with one medium, under the key `DEFAULT_MEDIA`
abbrev pub media_of : Json → Json
media_of medium = Map ((codes "DEFAULT_MEDIA", medium) ∷ [])

-- the members of a clip of the first version without its one reference and without members of the
-- new names
abbrev pub clip_kept : Pairs → Pairs
clip_kept members = without (codes "active_media_reference_key")
    (without (codes "media_references") (without (codes "media_reference") members))

-- a clip of the second version: at the end its media, which are those of the one reference, and
-- `DEFAULT_MEDIA` as the active key
abbrev pub second_clip : Pairs → Pairs
second_clip members =
    let media = media_of (medium_of (value_of (codes "media_reference") members)) in
    put (codes "active_media_reference_key") (Str (codes "DEFAULT_MEDIA"))
    (put (codes "media_references") media (with_schema (codes "Clip.2") (clip_kept members)))

-- a marker of the second version: without a member `marked_range`, then with `range` under that
-- name, in its place
abbrev pub second_marker : Pairs → Pairs
second_marker members = with_schema (codes "Marker.2")
    (named_anew (codes "range") (codes "marked_range") (without (codes "marked_range") members))

-- an object's members with its old name or version rewritten
abbrev pub renewed : Form → Pairs → Pairs
renewed Timeline members = members
renewed Collection members = members
renewed OldCollection members = with_name (codes "SerializableCollection") members
renewed Stack members = members
renewed Track members = members
renewed Sequence members = with_name (codes "Track") members
renewed FirstClip members = second_clip members
renewed Clip members = members
renewed Gap members = members
renewed Filler members = with_name (codes "Gap") members
renewed FirstMarker members = second_marker members
renewed Other members = members

-- the members of an object at a place, once those inside are rewritten: only an object of its own
-- is renewed
abbrev pub renewed_at : Row → Form → Pairs → Pairs
renewed_at Kept schema members = members
renewed_at Object schema members = renewed schema members
renewed_at Objects schema members = members
renewed_at Media schema members = members

-- the schema of an object whose values are known by what they become at each place
abbrev pub schema_among : List (List ℕ × (Row → Json)) → Form
schema_among members = schema_in (map (λ member. (member.0, member.1 Kept)) members)

-- the members of an object at a place, each rewritten by what stands there
abbrev pub members_at : Row → Form → List (List ℕ × (Row → Json)) → Pairs
members_at row schema members =
    map (λ member. (member.0, member.1 (member_row row schema member.0))) members

-- a value, with the values right inside it known by what they become at each place
abbrev pub upgrade_step : Json-F (Row → Json) → Row → Json
upgrade_step Json-F.Null row = Null
upgrade_step (Json-F.Bool b) row = JsonOfBool b
upgrade_step (Json-F.Num numeral) row = Num numeral
upgrade_step (Json-F.Str text) row = Str text
upgrade_step (Json-F.List items) row = JsonOfList (map (λ item. item (item_row row)) items)
upgrade_step (Json-F.Map members) row =
    Map (renewed_at row (schema_among members) (members_at row (schema_among members) members))

-- what a value becomes at a place
abbrev pub upgraded_at : Json → Row → Json
upgraded_at = fold-Json (Row → Json) upgrade_step

-- what an object becomes; a value that is none stays as it is
abbrev pub upgraded : Json → Json
upgraded value = upgraded_at value Object

-- what the items of a list become, each by what stands there
abbrev pub items_at : Row → List Json → List Json
items_at row items = map (λ item. upgraded_at item row) items

-- what a member becomes by what stands there: its name stays
abbrev pub pair_at : Row → Form → List ℕ × Json → List ℕ × Json
pair_at row schema member = (member.0, upgraded_at member.1 (member_row row schema member.0))

-- what an object's members become, each by what stands there
abbrev pub pairs_at : Row → Form → Pairs → Pairs
pairs_at row schema members = map (pair_at row schema) members

-- what an object's members become at a place: the values inside them first, and then their old name
-- or version
abbrev pub map_at : Row → Pairs → Pairs
map_at row members = renewed_at row (schema_in members) (pairs_at row (schema_in members) members)
