-- The schema that an object names: the text of its member `OTIO_SCHEMA`, a name without points, a
-- point and a version of one to nine digits. An old name and a first version are told from the
-- others.
use Rattle.std.specs.Prelude.{◌≡◌, ◌==◌, ℕ, Bool, ◌&&◌, nat_lt, nat_le, List, length, Option, Some, None, if◌then◌else◌, codes}
use Rattle.std.specs.List.{before_first, after_first, list_all}
use Rattle.std.specs.Char.{is_ascii_digit}
use Rattle.std.specs.Str.{bytes_eq}
use Rattle.std.specs.Str.Parse.{digits_value}
use Rattle.json_value.specs.declared.Json.{Json, out-Json}
use Rattle.json_value.specs.declared.Json.TheOpen.{Json-F}
use Rattle.sequences.specs.Pairs.{value_of}
use Rattle.schema_up.specs.declared.old_names.Form.{Form}
use Rattle.schema_up.specs.declared.old_names.Form.TheVariants.{Timeline, Collection, OldCollection, Stack, Track, Sequence, FirstClip, Clip, Gap, Filler, FirstMarker, Other}

-- whether a byte is the point
abbrev pub is_point : ℕ → Bool
is_point b = b == 46

-- the parts of a text before and behind its first point
pub record IsSplit (text before behind : List ℕ) : Type 0 where
  pub front : before ≡ before_first is_point text
  pub back : behind ≡ after_first is_point text

-- the number that one to nine digits write
abbrev pub version_in : List ℕ → Option ℕ
version_in digits =
    if nat_lt 0 (length digits) && nat_le (length digits) 9 && list_all is_ascii_digit digits
    then Some (digits_value 10 digits) else None

-- the schema of a name, in its first version or another
abbrev pub named : List ℕ → Bool → Form
named name first =
    if bytes_eq name (codes "Clip") then (if first then FirstClip else Clip)
    else if bytes_eq name (codes "Marker") then (if first then FirstMarker else Other)
    else if bytes_eq name (codes "Gap") then Gap
    else if bytes_eq name (codes "Track") then Track
    else if bytes_eq name (codes "Stack") then Stack
    else if bytes_eq name (codes "Timeline") then Timeline
    else if bytes_eq name (codes "SerializableCollection") then Collection
    else if bytes_eq name (codes "Filler") then Filler
    else if bytes_eq name (codes "Sequence") then Sequence
    else if bytes_eq name (codes "SerializeableCollection") then OldCollection
    else Other

-- the schema of a name and a version
abbrev pub versioned : List ℕ → Option ℕ → Form
versioned name None = Other
versioned name (Some version) = named name (version == 1)

-- the schema that a text names
abbrev pub schema_named : List ℕ → Form
schema_named text = versioned (before_first is_point text) (version_in (after_first is_point text))

-- the characters of a string, of one level of a value
abbrev pub string_in : Json-F Json → Option (List ℕ)
string_in Json-F.Null = None
string_in (Json-F.Bool b) = None
string_in (Json-F.Num numeral) = None
string_in (Json-F.Str text) = Some text
string_in (Json-F.List items) = None
string_in (Json-F.Map members) = None

-- the text of the member `OTIO_SCHEMA`, where that is a string
abbrev pub text_at : Option Json → Option (List ℕ)
text_at None = None
text_at (Some value) = string_in (out-Json value)

abbrev pub schema_text : List (List ℕ × Json) → Option (List ℕ)
schema_text members = text_at (value_of (codes "OTIO_SCHEMA") members)

-- the schema of an object's text, where it has one
abbrev pub schema_or_other : Option (List ℕ) → Form
schema_or_other None = Other
schema_or_other (Some text) = schema_named text

-- the schema that an object's members name
abbrev pub schema_in : List (List ℕ × Json) → Form
schema_in members = schema_or_other (schema_text members)
