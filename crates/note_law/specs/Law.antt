-- That the text of a list with notes is read as the same list.
use Rattle.std.specs.Prelude.{◌≡◌, ◌≤◌, ◌<◌, ℕ, Bool, true, false, List, [], ◌∷◌, Some, IsUtf8, length, slice_get, All}
use Rattle.limits.specs.Limits.{most_bytes}
use Rattle.tick_time.specs.declared.rates.Rate.{Rate}
use Rattle.tick_time.specs.Numerals.{IsNumeral}
use Rattle.edl_list.specs.declared.list.EventList.{EventList}
use Rattle.edl_list.specs.declared.list.Event.{Event}
use Rattle.edl_list.specs.Formed.{IsWellFormed}
use Rattle.edl_list.specs.Alike.{IsEven, IsSame}
use Rattle.edl_list.specs.Labelled.{IsLabelled, IsBelowDay}
use Rattle.edl_list.specs.Layouts.{layout_of, FitsLayout}
use Rattle.edl_text.specs.Columns.{cleaned}
use Rattle.edl_text.specs.Lists.{IsList}
use Rattle.edl_frames.specs.Conformed.{is_black}
use Rattle.edl_law.specs.Law.{HasNames}
use Rattle.note_text.specs.Belonging.{does_count, AreNotes}
use Rattle.note_text.specs.Forms.{IsColor}
use Rattle.note_text.specs.NotedSpelling.{noted_spelling}
use Rattle.note_text.specs.declared.notes.Triple.{Triple}
use Rattle.note_text.specs.declared.notes.Said.{Said}
use Rattle.note_text.specs.declared.notes.Said.TheVariants.{Loc, Sop, Sat}
use Rattle.note_text.specs.declared.notes.Note.{Note}

-- three numerals of JSON
pub record AreSpelled (t : Triple) : Type 0 where
  pub r : IsNumeral t.r
  pub g : IsNumeral t.g
  pub b : IsNumeral t.b

-- A note that has a text: the frame of a locator is below the day, its color is one, and its name
-- is UTF-8, as each text is; what a color correction says are numerals of JSON.
abbrev pub IsSpelled : Rate → Bool → Said → Type 0
IsSpelled rate drop (Loc at color name) = IsBelowDay rate drop at × IsColor color × IsUtf8 name
IsSpelled rate drop (Sop slope offset power) =
    AreSpelled slope × AreSpelled offset × AreSpelled power
IsSpelled rate drop (Sat numeral) = IsNumeral numeral

-- the name of a locator is UTF-8, as each text is
abbrev pub HasText : Said → Type 0
HasText (Loc at color name) = IsUtf8 name
HasText (Sop slope offset power) = Unit {0}
HasText (Sat numeral) = Unit {0}

-- A list with notes that has a text, and one that a reader takes: it is well formed and even, it
-- fits the layout, the labels of its events are below the day, its texts are UTF-8, its notes have
-- texts, and its text isn't too large.
pub record HasNotedText (list : EventList) (notes : List Note) (drop wide : Bool) : Type 0 where
  pub formed : IsWellFormed list
  pub even : IsEven list
  pub fits : FitsLayout (layout_of wide) list
  pub labels : All (IsLabelled list.rate drop) list.events
  pub title : IsUtf8 list.title
  pub names : All HasNames list.events
  pub notes_are : All (λ note. IsSpelled list.rate drop note.said) notes
  pub small : length (noted_spelling list notes drop wide) ≤ most_bytes

-- the text of the list with notes has exactly one reading at the list's rate, and it is the same
-- list
pub record IsReadAgain (list : EventList) (notes : List Note) (drop wide : Bool) : Type 0 where
  pub read : EventList
  pub reads : IsList list.rate (noted_spelling list notes drop wide) read
  pub same : IsSame list read
  pub only : (other : EventList) → IsList list.rate (noted_spelling list notes drop wide) other
      → other ≡ read

-- the name of a locator is as names are written, so that it is read again
abbrev pub IsClean : Said → Type 0
IsClean (Loc at color name) = name ≡ cleaned name
IsClean (Sop slope offset power) = Unit {0}
IsClean (Sat numeral) = Unit {0}

-- the notes stand in the order of their events, from one place in the list up to another
abbrev pub AreInOrder : ℕ → ℕ → List Note → Type 0
AreInOrder low high [] = Unit {0}
AreInOrder low high (note ∷ notes) =
    (low ≤ note.event) × (note.event < high) × AreInOrder note.event high notes

-- the note is one of an event of the list whose incoming side isn't black, for which it counts, and
-- its name is as it is read again
pub record IsOwn (list : EventList) (note : Note) : Type 0 where
  pub event : Event
  pub there : slice_get list.events note.event ≡ Some event
  pub shown : is_black event.to.reel ≡ false
  pub counts : does_count list.rate event note.said ≡ true
  pub clean : IsClean note.said

-- notes as the law of their reading needs them
pub record AreOwn (list : EventList) (notes : List Note) : Type 0 where
  pub order : AreInOrder 0 (length list.events) notes
  pub each : All (IsOwn list) notes

-- these are notes of the text of the list with them, read as any list that the text has (the law
-- that the notes of a text are one says that there are no others)
pub record HasNotesAgain (list : EventList) (notes : List Note) (drop wide : Bool) : Type 0 where
  pub has : (read : EventList) → IsList list.rate (noted_spelling list notes drop wide) read
      → AreNotes (noted_spelling list notes drop wide) read notes
