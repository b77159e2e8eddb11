-- What notes that are referred to say, and what each step adds.
use Rattle.std.specs.Prelude.{◌≡◌, ℕ, ℤ, pos, ◌+ℤ◌, cond, List, [], ◌∷◌, ◌++◌, Option, Some, None, codes, map}
use Rattle.std.specs.Borrow.{Bor}
use Rattle.json_value.specs.declared.Json.{Json, Str}
use Rattle.tick_time.specs.declared.rates.Rate.{Rate}
use Rattle.otio_model.specs.declared.markers.Marker.{Marker}
use Rattle.otio_model.specs.declared.markers.Marker.TheVariants.{Known}
use Rattle.otio_model.specs.declared.markers.Mark.{Mark}
use Rattle.otio_model.specs.declared.compositions.Clip.{Clip as ClipRow}
use Rattle.otio_model.specs.declared.compositions.ItemOf.{ItemOf}
use Rattle.otio_model.specs.declared.compositions.ItemOf.TheVariants.{Clip, Gap, Transition, Stack, Track}
use Rattle.otio_model.specs.declared.compositions.Listed.{Listed}
use Rattle.edl_list.specs.declared.list.Event.{Event}
use Rattle.edl_frames.specs.Conformed.{HasSpan, is_black}
use Rattle.note_text.specs.Belonging.{first_shown}
use Rattle.note_text.specs.Found.{as_notes, marked_frame}
use Rattle.note_text.specs.Noted.{AreMarkersOf, sop_json}
use Rattle.note_text.specs.Views.{triple}
use Rattle.note_text.specs.declared.notes.Said.{Said}
use Rattle.note_text.specs.declared.notes.Note.{Note}
use Rattle.edl_notes.specs.declared.colors.Correction.{Correction}

-- the notes that are referred to
abbrev pub notes_at : List (Bor Note) → List Note
notes_at notes = map (λ note. note.now) notes

-- what they say
abbrev pub said_by : List (Bor Note) → List Said
said_by notes = map (λ note. note.now.said) notes

-- ---- markers

-- the marker of one source frame, with its color as a member
pub record IsMarkerAt (rate : Rate) (frame : ℤ) (color name : List ℕ) (m : Marker)
    : Type 0 where
  pub mark : Mark
  pub is : m ≡ Known mark
  pub metadata : mark.metadata ≡ []
  pub name_is : mark.name ≡ name
  pub range : HasSpan rate frame (pos 1) mark.marked_range
  pub rest : mark.rest ≡ (codes "color", Str color) ∷ []

-- the markers of what is said were put at the end
pub record AddsMarkers (rate : Rate) (e : Event) (said : List Said) (old new : List Marker)
    : Type 0 where
  pub added : List Marker
  pub are : AreMarkersOf rate e said added
  pub is : new ≡ old ++ added

-- ---- color corrections

-- the lists of slope, offset and power
abbrev pub correction : Correction → Json
correction c = sop_json (triple c.slope) (triple c.offset) (triple c.power)

-- ---- notes that are found

-- what is so said of the event at a place was put at the end of the notes
pub record AddsSaid (index : ℕ) (Says : List Said → Type 0) (old new : List Note) : Type 0 where
  pub said : List Said
  pub says : Says said
  pub is : new ≡ old ++ as_notes index said

-- the clip that an event shows at its home, where its incoming side isn't black
abbrev pub shown_clip : Event → Option (ItemOf Listed) → Option ClipRow
shown_clip e None = None
shown_clip e (Some (Clip c)) = cond (is_black e.to.reel) None (Some c)
shown_clip e (Some (Gap g)) = None
shown_clip e (Some (Transition t)) = None
shown_clip e (Some (Stack s)) = None
shown_clip e (Some (Track t)) = None

-- the event first shows the frame of a mark at this record frame
pub record SaysAt (rate : Rate) (e : Event) (mark : Mark) (at : ℤ) : Type 0 where
  pub v : ℤ
  pub k : ℕ
  pub marked : marked_frame rate mark ≡ Some v
  pub first : first_shown rate e v ≡ Some k
  pub is : at ≡ e.rec_in +ℤ pos k
