-- The rows of the schemas' tables (OpenTimelineIO's schema pages), in the order in which they are
-- written.
use Rattle.std.specs.Prelude.{ℕ, ℤ, pos, Bool, true, false, List, [], ◌∷◌, codes}
use Rattle.schema_rows.specs.declared.rows.Field.{Field}
use Rattle.schema_rows.specs.declared.rows.Kind.{Kind}
use Rattle.schema_rows.specs.declared.rows.Kind.TheVariants as K

-- a kind of values: a text and a number carry their defaults
pub data RowKind : Type 0 where
  text : List ℕ → RowKind
  flag : RowKind
  meta : RowKind
  span : RowKind
  time : RowKind
  number : ℤ → RowKind
  items : RowKind
  effects : RowKind
  markers : RowKind
  media : RowKind
  medium : RowKind
  stack : RowKind
  objects : RowKind
  rate : RowKind
  numeral : RowKind

-- a row of a table: a member's name, the kind of its values, and whether it is needed
pub record Row : Type 0 where
  pub name : List ℕ
  pub kind : RowKind
  pub need : Bool

-- the kind that the code keeps
abbrev pub kind_of : Kind → RowKind
kind_of (K.Text default) = text default.now
kind_of K.Flag = flag
kind_of K.Meta = meta
kind_of K.Span = span
kind_of K.Time = time
kind_of (K.Number default) = number default
kind_of K.Items = items
kind_of K.Effects = effects
kind_of K.Markers = markers
kind_of K.Media = media
kind_of K.Medium = medium
kind_of K.Stack = stack
kind_of K.Objects = objects
kind_of K.Rate = rate
kind_of K.Numeral = numeral

-- the row that the code keeps
abbrev pub row_of : Field → Row
row_of field = record { name = field.name.now; kind = kind_of field.kind; need = field.need }

-- a row that may be absent, and one that is needed
abbrev pub optional : List ℕ → RowKind → Row
optional name kind = record { name = name; kind = kind; need = false }

abbrev pub needed : List ℕ → RowKind → Row
needed name kind = record { name = name; kind = kind; need = true }

-- the rows of an object that has a name: those that all have, and then its own
abbrev pub named_rows : List Row → List Row
named_rows own = optional (codes "metadata") meta ∷ optional (codes "name") (text []) ∷ own

-- the rows of an item
abbrev pub item_rows : List Row → List Row
item_rows own = named_rows (
    optional (codes "source_range") span
    ∷ optional (codes "effects") effects
    ∷ optional (codes "markers") markers
    ∷ optional (codes "enabled") flag
    ∷ own)

-- the rows of an effect
abbrev pub effect_rows_with : List Row → List Row
effect_rows_with own = named_rows (optional (codes "effect_name") (text []) ∷ own)

-- the rows of a media reference
abbrev pub media_rows : List Row → List Row
media_rows own = named_rows (optional (codes "available_range") span ∷ own)

-- Timeline.1
abbrev pub timeline_rows : List Row
timeline_rows = named_rows (
    optional (codes "global_start_time") time ∷ optional (codes "tracks") stack ∷ [])

-- SerializableCollection.1
abbrev pub collection_rows : List Row
collection_rows = named_rows (optional (codes "children") objects ∷ [])

-- Stack.1
abbrev pub stack_rows : List Row
stack_rows = item_rows (optional (codes "children") items ∷ [])

-- Track.1
abbrev pub track_rows : List Row
track_rows = item_rows (
    optional (codes "children") items ∷ optional (codes "kind") (text (codes "Video")) ∷ [])

-- Clip.2
abbrev pub clip_rows : List Row
clip_rows = item_rows (
    optional (codes "media_references") media
    ∷ optional (codes "active_media_reference_key") (text (codes "DEFAULT_MEDIA"))
    ∷ [])

-- Clip.1
abbrev pub first_clip_rows : List Row
first_clip_rows = item_rows (optional (codes "media_reference") medium ∷ [])

-- Gap.1
abbrev pub gap_rows : List Row
gap_rows = item_rows []

-- Transition.1
abbrev pub transition_rows : List Row
transition_rows = named_rows (
    optional (codes "transition_type") (text (codes "SMPTE_Dissolve"))
    ∷ optional (codes "in_offset") time
    ∷ optional (codes "out_offset") time
    ∷ [])

-- LinearTimeWarp.1
abbrev pub warp_rows : List Row
warp_rows = effect_rows_with (optional (codes "time_scalar") (number (pos 1000000)) ∷ [])

-- FreezeFrame.1
abbrev pub freeze_rows : List Row
freeze_rows = effect_rows_with (optional (codes "time_scalar") (number (pos 0)) ∷ [])

-- TimeEffect.1
abbrev pub time_effect_rows : List Row
time_effect_rows = effect_rows_with []

-- Effect.1
abbrev pub effect_rows : List Row
effect_rows = effect_rows_with []

-- Marker.2
abbrev pub marker_rows : List Row
marker_rows = named_rows (optional (codes "marked_range") span ∷ [])

-- Marker.1
abbrev pub first_marker_rows : List Row
first_marker_rows = named_rows (optional (codes "range") span ∷ [])

-- ExternalReference.1
abbrev pub external_rows : List Row
external_rows = media_rows (optional (codes "target_url") (text []) ∷ [])

-- MissingReference.1
abbrev pub missing_rows : List Row
missing_rows = media_rows []

-- GeneratorReference.1
abbrev pub generator_rows : List Row
generator_rows = media_rows (optional (codes "generator_kind") (text []) ∷ [])

-- ImageSequenceReference.1
abbrev pub images_rows : List Row
images_rows = media_rows (
    optional (codes "target_url_base") (text [])
    ∷ optional (codes "name_prefix") (text [])
    ∷ optional (codes "name_suffix") (text [])
    ∷ [])

-- TimeRange.1
abbrev pub time_range_rows : List Row
time_range_rows = needed (codes "duration") time ∷ needed (codes "start_time") time ∷ []

-- RationalTime.1
abbrev pub rational_time_rows : List Row
rational_time_rows = needed (codes "rate") rate ∷ needed (codes "value") numeral ∷ []
