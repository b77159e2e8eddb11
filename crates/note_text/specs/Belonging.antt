-- The notes of a list: to which events those belong that its lines say.
use Rattle.std.specs.Prelude.{◌≡◌, ◌==◌, ◌<◌, ℕ, zero, suc, ℤ, pos, ◌-ℤ◌, ◌*ℤ◌, int_le, int_lt, Bool, true, false, ◌&&◌, not, cond, List, [], ◌∷◌, ◌++◌, Some, None, Option, filter, length, unsigned_abs}
use Rattle.std.specs.Ordering.{int_eq}
use Rattle.limits.specs.Limits.{most_ticks}
use Rattle.text_lines.specs.Lines.{lines_of}
use Rattle.tick_time.specs.declared.rates.Rate.{Rate}
use Rattle.tick_time.specs.Rates.{frame}
use Rattle.smpte_tc.specs.Modes.{mode_of}
use Rattle.smpte_tc.specs.Day.{counted_of}
use Rattle.smpte_tc.specs.declared.modes.Mode.{Mode}
use Rattle.edl_list.specs.declared.list.Event.{Event}
use Rattle.edl_list.specs.declared.list.EventList.{EventList}
use Rattle.edl_list.specs.declared.list.Side.{Side}
use Rattle.edl_list.specs.Labelled.{IsBelowDay}
use Rattle.edl_frames.specs.Shown.{source_frame}
use Rattle.edl_frames.specs.Conformed.{is_black}
use Rattle.otio_model.specs.Overlaps.{within}
use Rattle.note_text.specs.Heard.{AreHeard}
use Rattle.note_text.specs.declared.notes.Said.{Said}
use Rattle.note_text.specs.declared.notes.Said.TheVariants.{Loc, Sop, Sat}
use Rattle.note_text.specs.declared.notes.Heard.{Heard}
use Rattle.note_text.specs.declared.notes.Note.{Note}

-- a locator at a record frame counts for an event: the event's record span holds the frame, and the
-- source frame that the incoming side shows there is at most 10 ^ 6 seconds
abbrev pub counts_at : Rate → Event → ℤ → Bool
counts_at rate e at = within e.rec_in e.rec_out at && int_le
    (source_frame rate e.to (at -ℤ e.rec_in) *ℤ pos (frame rate.num rate.den)) (pos most_ticks)

-- what a note says counts for an event
abbrev pub does_count : Rate → Event → Said → Bool
does_count rate e (Loc at color name) = counts_at rate e at
does_count rate e (Sop slope offset power) = true
does_count rate e (Sat numeral) = true

-- a note belongs to an event of its event line whose incoming side isn't black
abbrev pub is_owner : Rate → Heard → Event → Bool
is_owner rate heard e = (e.line == heard.line)
    && (not (is_black e.to.reel) && does_count rate e heard.said)

-- the notes that events have, counted from this place, of what is said
abbrev pub notes_from : Rate → ℕ → List Event → Heard → List Note
notes_from rate index [] heard = []
notes_from rate index (e ∷ events) heard =
    cond (is_owner rate heard e)
    (record { event = index; said = heard.said } ∷ notes_from rate (suc index) events heard)
    (notes_from rate (suc index) events heard)

-- the notes that events have of what lines say, in the order of the lines
abbrev pub notes_said : Rate → List Event → List Heard → List Note
notes_said rate events [] = []
notes_said rate events (heard ∷ more) =
    notes_from rate 0 events heard ++ notes_said rate events more

-- the notes of bytes for the list that they are
pub record AreNotes (bytes : List ℕ) (list : EventList) (notes : List Note) : Type 0 where
  pub heard : List Heard
  pub said : AreHeard list.rate [] (lines_of bytes) heard
  pub are : notes ≡ notes_said list.rate list.events heard

-- the notes of the event at a place, in their order
abbrev pub own_notes : ℕ → List Note → List Note
own_notes index notes = filter (λ note. note.event == index) notes

-- each event has the same notes among both
abbrev pub HaveSameOwn : (a b : List Note) → Type 0
HaveSameOwn a b = (index : ℕ) → own_notes index b ≡ own_notes index a

-- what a note says can be written at a rate, with drop-frame or without: the frame of a locator is
-- one of the day
abbrev pub IsSaidBelowDay : Rate → Bool → Said → Type 0
IsSaidBelowDay rate drop (Loc at color name) = IsBelowDay rate drop at
IsSaidBelowDay rate drop (Sop slope offset power) = Unit {0}
IsSaidBelowDay rate drop (Sat numeral) = Unit {0}

-- the number is one of a frame of the day, where frames are counted so
abbrev pub is_day_frame : Option Mode → ℤ → Bool
is_day_frame None n = false
is_day_frame (Some mode) n =
    int_le (pos 0) n && int_lt n (pos (length (counted_of mode)))

-- whether what a note says can be written
abbrev pub is_said_below_day : Rate → Bool → Said → Bool
is_said_below_day rate drop (Loc at color name) = is_day_frame (mode_of rate drop) at
is_said_below_day rate drop (Sop slope offset power) = true
is_said_below_day rate drop (Sat numeral) = true

-- the notes without each locator whose frame isn't below the day
abbrev pub below_day : Rate → Bool → List Note → List Note
below_day rate drop notes = filter (λ note. is_said_below_day rate drop note.said) notes

-- the note can be written after an event of the list
pub record IsNoteOf (list : EventList) (drop : Bool) (note : Note) : Type 0 where
  pub event : note.event < length list.events
  pub below : IsSaidBelowDay list.rate drop note.said

-- how many frames after the start of an event its incoming side first shows a source frame, from k
-- frames on, where so many frames are left; none where it doesn't within them
abbrev pub first_from : Rate → Side → ℤ → ℕ → ℕ → Option ℕ
first_from rate side frame k zero = None
first_from rate side frame k (suc left) =
    cond (int_eq (source_frame rate side (pos k)) frame) (Some k)
    (first_from rate side frame (suc k) left)

-- the same from the start of an event on
abbrev pub first_shown : Rate → Event → ℤ → Option ℕ
first_shown rate e frame =
    first_from rate e.to frame 0 (unsigned_abs (e.rec_out -ℤ e.rec_in))
