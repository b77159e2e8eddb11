-- The walk along a channel's track and its events.
use Rattle.std.specs.Prelude.{◌≡◌, ◌<◌, ℕ, ◌-ℤ◌, nat_lt, Bool, true, false, not, ◌||◌, List, Option, Some, None, All, slice_get, unsigned_abs}
use Rattle.std.specs.List.Sorted.{IsNonDecreasingBy}
use Rattle.std.specs.Borrow.{Bor}
use Rattle.tick_time.specs.Frames.{in_ticks}
use Rattle.otio_model.specs.declared.compositions.ItemOf.{ItemOf}
use Rattle.otio_model.specs.declared.compositions.Listed.{Listed}
use Rattle.otio_model.specs.Lengths.{length_of, or_zero}
use Rattle.edl_list.specs.declared.list.Channel.{Channel}
use Rattle.edl_list.specs.declared.list.Event.{Event}
use Rattle.edl_list.specs.declared.list.EventList.{EventList}
use Rattle.edl_list.specs.Formed.{IsWellFormed}
use Rattle.edl_frames.specs.Conformed.{first_record}
use Rattle.edl_frames.specs.Shown.{is_on}
use Rattle.note_text.specs.Noted.{IsNotedItem, IsNoteFor, said_of}
use Rattle.note_text.specs.declared.notes.Note.{Note}
use Rattle.edl_notes.specs.Steps.{notes_at}
use Rattle.edl_notes.specs.declared.events.Work.{Work}

-- the record frame is the least of the list
abbrev pub HasFirst : Work → Type 0
HasFirst work = work.first ≡ first_record work.list.now.events

-- a well formed list, its least record in, and notes that count for its events, in their order
pub record IsWork (work : Work) : Type 0 where
  pub formed : IsWellFormed work.list.now
  pub first : HasFirst work
  pub rising : IsNonDecreasingBy (λ (note : Bor Note). note.now.event) work.notes.now
  pub notes : All (IsNoteFor work.list.now) (notes_at work.notes.now)

-- the ticks from the start of a track to the record in of an event
abbrev pub ticks_before : EventList → Event → ℕ
ticks_before list e =
    unsigned_abs (in_ticks list.rate (e.rec_in -ℤ first_record list.events))

-- the event is on another channel, or begins less than so many ticks after the start of the track
abbrev pub is_earlier : EventList → Channel → ℕ → Event → Bool
is_earlier list c start e = not (is_on c e) || nat_lt (ticks_before list e) start

-- so are the events before a place
abbrev pub AreEarlier : EventList → Channel → ℕ → ℕ → Type 0
AreEarlier list c start at = (i : ℕ) (e : Event) → i < at → slice_get list.events i ≡ Some e
    → is_earlier list c start e ≡ true

-- the place is that of the first event that isn't, or lies after all events
pub record IsNext (list : EventList) (c : Channel) (start at : ℕ) : Type 0 where
  pub before : AreEarlier list c start at
  pub here : (e : Event) → slice_get list.events at ≡ Some e → is_earlier list c start e ≡ false

-- the item has a length, and the event at a place is on the channel and begins so many ticks after
-- the start of the track
pub record BeginsAt (list : EventList) (c : Channel) (start : ℕ) (x : ItemOf Listed) (index : ℕ)
    (e : Event) : Type 0 where
  pub event : slice_get list.events index ≡ Some e
  pub on : is_on c e ≡ true
  pub lasts : 0 < or_zero (length_of x)
  pub starts : ticks_before list e ≡ start

-- the item with the notes of the event at a place, or as it was
abbrev pub IsNotedBy : EventList → List Note → Option ℕ → (x y : ItemOf Listed) → Type 0
IsNotedBy list notes None x y = y ≡ x
IsNotedBy list notes (Some index) x y = (e : Event) × (slice_get list.events index ≡ Some e)
    × IsNotedItem list.rate e (said_of index notes) x y
