-- A conformed timeline with the notes of its list.
use Rattle.std.specs.Prelude.{◌≡◌, ◌<◌, ℕ, ℤ, pos, ◌+ℤ◌, ◌-ℤ◌, true, List, [], ◌∷◌, ◌++◌, Option, Some, None, codes, map, slice_get}
use Rattle.tick_time.specs.declared.rates.Rate.{Rate}
use Rattle.tick_time.specs.Frames.{in_ticks}
use Rattle.sequences.specs.Pairs.{put}
use Rattle.json_value.specs.declared.Json.{Json, Num, Str, Map, List as JsonOfList}
use Rattle.otio_model.specs.declared.markers.Marker.{Marker}
use Rattle.otio_model.specs.declared.markers.Marker.TheVariants.{Known}
use Rattle.otio_model.specs.declared.markers.Mark.{Mark}
use Rattle.otio_model.specs.declared.compositions.ItemOf.{ItemOf}
use Rattle.otio_model.specs.declared.compositions.ItemOf.TheVariants.{Clip, Gap, Transition, Stack, Track}
use Rattle.otio_model.specs.declared.compositions.Listed.{Listed}
use Rattle.otio_model.specs.declared.timelines.Timeline.{Timeline}
use Rattle.otio_model.specs.Lengths.{length_of, or_zero}
use Rattle.otio_model.specs.Timelines.{bare}
use Rattle.otio_model.specs.Trees.{items_of, listed}
use Rattle.edl_list.specs.declared.list.Channel.{Channel}
use Rattle.edl_list.specs.declared.list.Event.{Event}
use Rattle.edl_list.specs.declared.list.EventList.{EventList}
use Rattle.edl_frames.specs.Carried.{channel_of}
use Rattle.edl_frames.specs.Conformed.{HasSpan, first_record}
use Rattle.edl_frames.specs.Shown.{is_on, source_frame}
use Rattle.note_text.specs.Belonging.{does_count, own_notes}
use Rattle.note_text.specs.declared.notes.Triple.{Triple}
use Rattle.note_text.specs.declared.notes.Said.{Said}
use Rattle.note_text.specs.declared.notes.Said.TheVariants.{Loc, Sop, Sat}
use Rattle.note_text.specs.declared.notes.Note.{Note}

-- ---- markers

-- the marker of a locator: one frame of the source, at the one that the event shows there, with its
-- color as a member
pub record IsMarkerOf (rate : Rate) (e : Event) (at : ℤ) (color name : List ℕ)
    (m : Marker) : Type 0 where
  pub mark : Mark
  pub is : m ≡ Known mark
  pub metadata : mark.metadata ≡ []
  pub name_is : mark.name ≡ name
  pub range : HasSpan rate (source_frame rate e.to (at -ℤ e.rec_in)) (pos 1) mark.marked_range
  pub rest : mark.rest ≡ (codes "color", Str color) ∷ []

-- a marker for each locator among what is said, in order
abbrev pub AreMarkersOf : Rate → Event → List Said → List Marker → Type 0
AreMarkersOf rate e [] markers = markers ≡ []
AreMarkersOf rate e (Loc at color name ∷ said) markers = (first : Marker) × (more : List Marker)
    × (markers ≡ first ∷ more) × IsMarkerOf rate e at color name first
    × AreMarkersOf rate e said more
AreMarkersOf rate e (Sop slope offset power ∷ said) markers = AreMarkersOf rate e said markers
AreMarkersOf rate e (Sat numeral ∷ said) markers = AreMarkersOf rate e said markers

-- ---- color corrections

abbrev pub triple_json : Triple → Json
triple_json t = JsonOfList (Num t.r ∷ Num t.g ∷ Num t.b ∷ [])

-- the lists of slope, offset and power
abbrev pub sop_json : Triple → Triple → Triple → Json
sop_json slope offset power = Map ((codes "slope", triple_json slope)
    ∷ (codes "offset", triple_json offset) ∷ (codes "power", triple_json power) ∷ [])

-- the last slope, offset and power among what is said, and those found before where there are none
abbrev pub last_sop : Option Json → List Said → Option Json
last_sop found [] = found
last_sop found (Loc at color name ∷ said) = last_sop found said
last_sop found (Sop slope offset power ∷ said) = last_sop (Some (sop_json slope offset power)) said
last_sop found (Sat numeral ∷ said) = last_sop found said

-- the last saturation
abbrev pub last_sat : Option Json → List Said → Option Json
last_sat found [] = found
last_sat found (Loc at color name ∷ said) = last_sat found said
last_sat found (Sop slope offset power ∷ said) = last_sat found said
last_sat found (Sat numeral ∷ said) = last_sat (Some (Num numeral)) said

-- a member, where it has a value
abbrev pub member_if : List ℕ → Option Json → List (List ℕ × Json)
member_if name None = []
member_if name (Some value) = (name, value) ∷ []

-- the color correction that is said
abbrev pub colors_of : List Said → List (List ℕ × Json)
colors_of said = member_if (codes "asc_sop") (last_sop None said)
    ++ member_if (codes "asc_sat") (last_sat None said)

-- metadata with a color correction, where that isn't empty
abbrev pub with_colors : List (List ℕ × Json) → List (List ℕ × Json) → List (List ℕ × Json)
with_colors [] metadata = metadata
with_colors (color ∷ colors) metadata = put (codes "cdl") (Map (color ∷ colors)) metadata

-- ---- items, tracks and timelines

-- the item of an event with what its notes say
abbrev pub IsNotedItem : Rate → Event → List Said → (x y : ItemOf Listed) → Type 0
IsNotedItem rate e said (Clip c) y = (markers : List Marker) × AreMarkersOf rate e said markers
    × (y ≡ Clip (record c {
      metadata = with_colors (colors_of said) c.metadata;
      markers = c.markers ++ markers;
    }))
IsNotedItem rate e said (Gap g) y = (markers : List Marker) × AreMarkersOf rate e said markers
    × (y ≡ Gap (record g {
      metadata = with_colors (colors_of said) g.metadata;
      markers = g.markers ++ markers;
    }))
IsNotedItem rate e said (Transition t) y = y ≡ Transition t
IsNotedItem rate e said (Stack s) y = y ≡ Stack s
IsNotedItem rate e said (Track t) y = y ≡ Track t

-- the item of the event at this place of the list: it has a length, and starts at the event's
-- record in
pub record IsItemAt (list : EventList) (c : Channel) (start : ℤ) (x : ItemOf Listed)
    (index : ℕ) (e : Event) : Type 0 where
  pub event : slice_get list.events index ≡ Some e
  pub on : is_on c e ≡ true
  pub lasts : 0 < or_zero (length_of x)
  pub starts : start ≡ in_ticks list.rate (e.rec_in -ℤ first_record list.events)

-- what the notes of the event at a place say
abbrev pub said_of : ℕ → List Note → List Said
said_of index notes = map (λ note. note.said) (own_notes index notes)

-- the children of a channel's track from an instant on, those that are items of events with their
-- notes
pub data AreNotedChildren (list : EventList) (notes : List Note) (c : Channel)
    : ℤ → List (ItemOf Listed) → List (ItemOf Listed) → Type 0 where
  end : (start : ℤ) → AreNotedChildren list notes c start [] []
  noted : (start : ℤ) (x y : ItemOf Listed) (xs ys : List (ItemOf Listed)) (index : ℕ) (e : Event)
      → IsItemAt list c start x index e
      → IsNotedItem list.rate e (said_of index notes) x y
      → AreNotedChildren list notes c (start +ℤ pos (or_zero (length_of x))) xs ys
      → AreNotedChildren list notes c start (x ∷ xs) (y ∷ ys)
  other : (start : ℤ) (x : ItemOf Listed) (xs ys : List (ItemOf Listed))
      → ((index : ℕ) (e : Event) → IsItemAt list c start x index e → ⊥)
      → AreNotedChildren list notes c (start +ℤ pos (or_zero (length_of x))) xs ys
      → AreNotedChildren list notes c start (x ∷ xs) (x ∷ ys)

-- a track of a channel or of none
abbrev pub AreNotedBelow : EventList → List Note → Option Channel → (xs ys : List (ItemOf Listed))
    → Type 0
AreNotedBelow list notes None xs ys = ys ≡ xs
AreNotedBelow list notes (Some c) xs ys = AreNotedChildren list notes c (pos 0) xs ys

-- a root child after these
abbrev pub IsNotedRoot : EventList → List Note → List (ItemOf Listed) → (x y : ItemOf Listed)
    → Type 0
IsNotedRoot list notes past (Clip c) y = y ≡ Clip c
IsNotedRoot list notes past (Gap g) y = y ≡ Gap g
IsNotedRoot list notes past (Transition t) y = y ≡ Transition t
IsNotedRoot list notes past (Stack s) y = y ≡ Stack s
IsNotedRoot list notes past (Track t) y = (ys : List (ItemOf Listed))
    × AreNotedBelow list notes (channel_of past t) (items_of t.children) ys
    × (y ≡ Track (record t { children = listed ys }))

-- the root children after these
abbrev pub AreNotedRoots : EventList → List Note → (past xs ys : List (ItemOf Listed)) → Type 0
AreNotedRoots list notes past [] ys = ys ≡ []
AreNotedRoots list notes past (x ∷ xs) ys = (y : ItemOf Listed) × (more : List (ItemOf Listed))
    × (ys ≡ y ∷ more) × IsNotedRoot list notes past x y
    × AreNotedRoots list notes (past ++ x ∷ []) xs more

-- the timeline with the notes of the list
pub record IsNoted (t : Timeline) (list : EventList) (notes : List Note) (r : Timeline)
    : Type 0 where
  pub roots : List (ItemOf Listed)
  pub are : AreNotedRoots list notes [] (items_of t.tracks.children) roots
  pub is : bare r ≡ bare (record t { tracks = record t.tracks { children = listed roots } })

-- the note is one of an event of the list, for which it counts where it is a locator
pub record IsNoteFor (list : EventList) (note : Note) : Type 0 where
  pub event : Event
  pub there : slice_get list.events note.event ≡ Some event
  pub counts : does_count list.rate event note.said ≡ true
