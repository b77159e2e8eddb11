-- What stands at a member of an object, by the tables of the schemas: a value that is kept as it
-- is, an object, a list of objects, or media, which are objects under names.
use Rattle.std.specs.Prelude.{ℕ, Bool, true, false, List, if◌then◌else◌, codes}
use Rattle.std.specs.Str.{bytes_eq}
use Rattle.schema_up.specs.declared.old_names.Form.{Form}
use Rattle.schema_up.specs.declared.old_names.Form.TheVariants.{Timeline, Collection, OldCollection, Stack, Track, Sequence, FirstClip, Clip, Gap, Filler, FirstMarker, Other}
use Rattle.schema_up.specs.declared.old_names.Row.{Row}
use Rattle.schema_up.specs.declared.old_names.Row.TheVariants.{Kept, Object, Objects, Media}

abbrev pub where_holds : Bool → Row → Row
where_holds true row = row
where_holds false row = Kept

-- a stack or a track: its children and its markers
abbrev pub parent_row_of : List ℕ → Row
parent_row_of member = if bytes_eq member (codes "children") then Objects
    else where_holds (bytes_eq member (codes "markers")) Objects

-- a clip: its media under this name, and its markers
abbrev pub clip_row_of : List ℕ → Row → List ℕ → Row
clip_row_of media row member = if bytes_eq member media then row
    else where_holds (bytes_eq member (codes "markers")) Objects

-- the member of a name in an object of a schema: in metadata, in effects and in members that no
-- table has, values are kept
abbrev pub row_of : Form → List ℕ → Row
row_of Timeline member = where_holds (bytes_eq member (codes "tracks")) Object
row_of Collection member = where_holds (bytes_eq member (codes "children")) Objects
row_of OldCollection member = where_holds (bytes_eq member (codes "children")) Objects
row_of Stack member = parent_row_of member
row_of Track member = parent_row_of member
row_of Sequence member = parent_row_of member
row_of FirstClip member = clip_row_of (codes "media_reference") Object member
row_of Clip member = clip_row_of (codes "media_references") Media member
row_of Gap member = where_holds (bytes_eq member (codes "markers")) Objects
row_of Filler member = where_holds (bytes_eq member (codes "markers")) Objects
row_of FirstMarker member = Kept
row_of Other member = Kept

-- an item of a list at a place
abbrev pub item_row : Row → Row
item_row Kept = Kept
item_row Object = Kept
item_row Objects = Object
item_row Media = Kept

-- a member of an object at a place
abbrev pub member_row : Row → Form → List ℕ → Row
member_row Kept schema member = Kept
member_row Object schema member = row_of schema member
member_row Objects schema member = Kept
member_row Media schema member = Object
